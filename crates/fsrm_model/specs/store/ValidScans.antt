-- Which scans wait, and what the active one has still to visit, in the rows of a store.
use Rattle.std.specs.Prelude.{◌≡◌, ℕ, ◌&&◌, ◌||◌, not, Bool, true, false, List, [], ◌∷◌, Option, Some, None}
use Rattle.std.specs.List.{list_all}
use Rattle.std.specs.Option.{option_map_or}
use Rattle.fsrm_model.specs.declared.row.NodeRow.{NodeRow}
use Rattle.fsrm_model.specs.declared.row.QuotaRow.{QuotaRow}
use Rattle.fsrm_base.specs.Keyed.{row_of, has_row}
use Rattle.fsrm_base.specs.Numbers.{is_in, each_once}
use Rattle.fsrm_model.specs.objects.Quota.{folder_of}
use Rattle.fsrm_model.specs.objects.QuotaStates.{is_rebuilding}
use Rattle.fsrm_model.specs.objects.Scan.{are_unvisited, AreUnvisited}

-- whether a folder has a quota that is rebuilding
abbrev pub is_waiting : List QuotaRow → ℕ → Bool
is_waiting quotas folder = option_map_or (λ quota. is_rebuilding quota.state) (row_of folder_of folder quotas) false

-- whose scans wait: exactly the folders of the rebuilding quotas, each once
abbrev pub is_queue : List QuotaRow → List ℕ → Bool
is_queue quotas queue =
    each_once queue
    && (list_all (is_waiting quotas) queue && list_all (λ quota. not (is_rebuilding quota.state) || is_in queue quota.folder) quotas)

pub record IsQueue (quotas : List QuotaRow) (queue : List ℕ) : Type 0 where
  pub once : each_once queue ≡ true
  pub queued : (folder : ℕ) → is_in queue folder ≡ true → has_row folder_of folder quotas ≡ true
  pub rebuilding : (folder : ℕ) (quota : QuotaRow) → row_of folder_of folder quotas ≡ Some quota → is_in queue folder ≡ is_rebuilding quota.state

-- what the active scan has still to visit; nothing if there is none
abbrev pub are_left : List NodeRow → Option ℕ → List ℕ → Bool
are_left nodes None [] = true
are_left nodes None (n ∷ unvisited) = false
are_left nodes (Some scanned) unvisited = are_unvisited nodes scanned unvisited

abbrev pub AreLeft : List NodeRow → Option ℕ → List ℕ → Type 0
AreLeft nodes None unvisited = unvisited ≡ []
AreLeft nodes (Some scanned) unvisited = AreUnvisited nodes scanned unvisited
