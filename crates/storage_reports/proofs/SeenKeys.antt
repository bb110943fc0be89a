-- Maps, by what is seen of their keys.
use Rattle.std.proofs.Common.{◌≡◌, Bool, true, false, cond, List, [], ◌∷◌, map, Option, Some, refl, ◌∙◌, ap}
use Rattle.std.specs.Map.{lookup}
use Rattle.indexmap.specs.IndexMap.{insert_entry}
use Rattle.fsrm_model.specs.reports.Groups.{with_value}

module _ {K S V : Type 0} (eq : K → K → Bool) (same : S → S → Bool) (value : K → S) (agrees : (a b : K) → eq a b ≡ same (value a) (value b)) where
  pub insert-seen : (es : List (K × V)) (k : K) (v : V) → map (with_value value) (insert_entry eq es k v) ≡ insert_entry same (map (with_value value) es) (value k) v
  insert-seen [] k v = refl
  insert-seen (e ∷ es) k v = at (eq k e.0) (insert-seen es k v) ∙ ap (λ b. cond b (here ∷ later) (with_value value e ∷ insert_entry same later (value k) v)) (agrees k e.0)
    where
      later : List (S × V)
      later = map (with_value value) es

      here : S × V
      here = (value e.0, v)

      at : (b : Bool) → map (with_value value) (insert_entry eq es k v) ≡ insert_entry same later (value k) v
          → map (with_value value) (cond b ((e.0, v) ∷ es) (e ∷ insert_entry eq es k v)) ≡ cond b (here ∷ later) (with_value value e ∷ insert_entry same later (value k) v)
      at true h = refl
      at false h = ap (λ (zs : List (S × V)). with_value value e ∷ zs) h

  pub lookup-seen : (es : List (K × V)) (k : K) → lookup (eq k) es ≡ lookup (same (value k)) (map (with_value value) es)
  lookup-seen [] k = refl
  lookup-seen (e ∷ es) k =
      ap (λ (o : Option V). cond (eq k e.0) (Some e.1) o) (lookup-seen es k)
      ∙ ap (λ b. cond b (Some e.1) (lookup (same (value k)) (map (with_value value) es))) (agrees k e.0)
