use Rattle.std.proofs.Common.{◌≡◌, drop}
use Rattle.std.specs.List.{list_any}
use Rattle.fsrm_base.specs.Numbers.{is_in}
use Rattle.fsrm_parts.proofs.groups.is_screened.Given as goal

-- none so far names it
abbrev pub invariant-loop-place : goal.invariant-loop-place
invariant-loop-place l =
    list_any (λ screen. is_in screen.groups l.number) (drop l.place l.objects.screens) ≡ list_any (λ screen. is_in screen.groups l.number) l.objects.screens
