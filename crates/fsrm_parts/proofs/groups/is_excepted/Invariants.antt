use Rattle.std.proofs.Common.{◌≡◌, drop}
use Rattle.std.specs.List.{list_any}
use Rattle.fsrm_base.specs.Numbers.{is_in}
use Rattle.fsrm_parts.proofs.groups.is_excepted.Given as goal

-- none so far names it
abbrev pub invariant-loop-place : goal.invariant-loop-place
invariant-loop-place l =
    list_any (λ except. is_in except.groups l.number) (drop l.place l.objects.excepts) ≡ list_any (λ except. is_in except.groups l.number) l.objects.excepts
