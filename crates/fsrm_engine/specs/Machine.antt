-- An engine's parts, and how the plain machine sees them.
use Rattle.std.specs.Prelude.{◌≡◌, ℕ, ◌≤◌, Bool, true, false, List, [], map, Some}
use Rattle.fsrm_model.specs.declared.command.Act.{Act}
use Rattle.fsrm_model.specs.declared.command.Answer.{Answer}
use Rattle.fsrm_model.specs.declared.command.Deed.{Deed}
use Rattle.fsrm_model.specs.declared.command.Subject.{Subject}
use Rattle.fsrm_model.specs.declared.row.Capacity.{Capacity}
use Rattle.fsrm_model.specs.declared.row.NodeRow.{NodeRow}
use Rattle.fsrm_model.specs.declared.row.QuotaRow.{QuotaRow}
use Rattle.fsrm_model.specs.declared.row.Rows.{Rows}
use Rattle.fsrm_model.specs.objects.Acts.{has_act, of_quotas, of_screens}
use Rattle.fsrm_model.specs.store.Capacities.{is_capacity}
use Rattle.fsrm_model.specs.nodes.Fresh.{rows_of_nodes}
use Rattle.fsrm_base.specs.Keyed.{row_of}
use Rattle.fsrm_base.specs.Numbers.{is_set}
use Rattle.fsrm_model.specs.values.Limits.{latest_moment, most_quotas}
use Rattle.fsrm_model.specs.objects.Quota.{folder_of, counts, peaked}
use Rattle.fsrm_model.specs.commands.Step.{Stepped, step}
use Rattle.fsrm_model.specs.nodes.Tree.{usage}
use Rattle.fsrm_model.specs.store.Valid.{IsVolume, AreQuotas, IsValid}
use Rattle.number_set.specs.Numbers.{no_numbers}
use Rattle.quota_usage.specs.declared.change.Change.{Change}
use Rattle.quota_usage.specs.declared.change.Counter.{Counter}
use Rattle.quota_usage.specs.Charge.{charged_counter}
use Rattle.rescan.specs.Courses.{Course, Scanning, Turns, left}
use Rattle.thresholds.specs.Marked.{waiting, are_there, all_waiting, screen_waiting, are_screen_acts}
use Rattle.thresholds.specs.Settled.{Settles}
use Rattle.volume_tree.specs.Volume.{Volume}
use Rattle.fsrm_engine.specs.declared.parts.Parts.{Parts}
use Rattle.fsrm_parts.specs.Peaks.{raised_above}
use Rattle.fsrm_parts.specs.Sums.{sums_of}

-- how much it may hold, its rows, and the acts that wait to be handed out
pub record Machine : Type 0 where
  pub size : Capacity
  pub rows : Rows
  pub waiting : List Act

-- the machine took this step: it has the step's rows, hands out the step's acts, and answers its outcome
pub record Takes (old new : Machine) (stepped : Stepped) (answer : Answer) : Type 0 where
  pub size_is : new.size ≡ old.size
  pub rows_are : new.rows ≡ stepped.rows
  pub acts_are : new.waiting ≡ stepped.acts
  pub outcome_is : answer.outcome ≡ stepped.outcome
  pub lasting_is : answer.lasting ≡ stepped.lasting

-- the rows of an engine's parts
abbrev pub rows_of : Parts → Rows
rows_of parts =
    record (rows_of_nodes parts.tree.nodes) {
      templates = parts.templates.templates;
      autos = parts.templates.autos;
      groups = parts.groups;
      quotas = parts.objects.quotas;
      screens = parts.objects.screens;
      excepts = parts.objects.excepts;
      jobs = parts.objects.jobs;
      audits = parts.audit;
      acts = parts.marks.log;
      queue = parts.scans.queue;
      unvisited = left parts.tree.nodes parts.scans;
      run_limit = parts.run_limit;
      last_moment = parts.last_moment;
    }

-- the machine that an engine's parts make up
abbrev pub machine_of : Parts → Machine
machine_of parts =
    record { size = parts.tree.size; rows = rows_of parts; waiting = all_waiting parts.objects parts.marks }

-- the parts over a tree, with these scans and nothing else
abbrev pub bare : Volume → Course → Parts
bare tree scans =
    record {
      tree = tree;
      objects = record { quotas = []; screens = []; excepts = []; jobs = []; room = 0 };
      groups = [];
      templates = record { templates = []; autos = [] };
      usage = [];
      scans = scans;
      marks = record { numbers = []; log = []; folder = 0; places = [] };
      audit = [];
      crossing = no_numbers most_quotas;
      run_limit = 60;
      last_moment = 0;
      level = false;
    }

-- ---- what is known of the parts
-- the counters of these quotas are the sums over the tree, and if it is level no peak is below what is used
pub record IsCounted (size : Capacity) (nodes : List NodeRow) (quotas : List QuotaRow) (counters : List Counter) (level : Bool) : Type 0 where
  pub volume : IsVolume size nodes
  pub legal : is_capacity size ≡ true
  pub are_quotas : AreQuotas nodes quotas
  pub sums : counters ≡ sums_of size nodes quotas
  pub peaks : level ≡ true → (folder : ℕ) (quota : QuotaRow) → row_of folder_of folder quotas ≡ Some quota → counts quota ≡ true → usage size nodes folder ≤ quota.peak

abbrev pub AreCounted : Parts → Type 0
AreCounted parts = IsCounted parts.tree.size parts.tree.nodes parts.objects.quotas parts.usage parts.level

-- the counters are the sums, and the active scan goes on over the tree
pub record IsSound (parts : Parts) : Type 0 where
  pub counted : AreCounted parts
  pub scanning : Scanning parts.tree parts.scans

-- no action of a quota waits
pub record IsCalm (parts : Parts) : Type 0 where
  pub numbers : parts.marks.numbers ≡ []
  pub crossing : parts.crossing ≡ no_numbers most_quotas

-- no action waits
pub record IsIdle (parts : Parts) : Type 0 where
  pub numbers : parts.marks.numbers ≡ []
  pub places : parts.marks.places ≡ []
  pub crossing : parts.crossing ≡ no_numbers most_quotas

-- exactly the actions wait that these acts name, and they are there
pub record AreMarked (parts : Parts) (acts : List Act) : Type 0 where
  pub there : are_there parts.objects.quotas parts.marks.numbers ≡ true
  pub places : are_screen_acts parts.objects.screens parts.marks ≡ true
  pub set : is_set parts.marks.numbers ≡ true
  pub are : (subject : Subject) (place : ℕ) → has_act (waiting parts.objects.quotas parts.marks.numbers) subject place ≡ has_act (of_quotas acts) subject place
  pub screens : screen_waiting parts.objects.screens parts.marks ≡ of_screens acts
  pub crossing : parts.crossing ≡ no_numbers most_quotas

-- the parts are sound, their rows are those of a store, the actions that wait are there, and no crossing is left to be settled
pub record IsWhole (parts : Parts) : Type 0 where
  pub sound : IsSound parts
  pub valid : IsValid parts.tree.size (rows_of parts)
  pub there : are_there parts.objects.quotas parts.marks.numbers ≡ true
  pub screens : are_screen_acts parts.objects.screens parts.marks ≡ true
  pub crossing : parts.crossing ≡ no_numbers most_quotas

-- the parts are whole, no action waits, and the moment may be that of a command
pub record IsReady (parts : Parts) (moment : ℕ) : Type 0 where
  pub whole : IsWhole parts
  pub idle : IsIdle parts
  pub in_range : moment ≤ latest_moment
  pub after : parts.last_moment ≤ moment

-- ---- what is done with them
-- the plain machine's step at a deed of this moment
abbrev pub step_of : Parts → ℕ → Deed → Stepped
step_of parts moment deed = step parts.tree.size (rows_of parts) (record { moment = moment; deed = deed })

-- the parts did what the plain machine does at this deed of this moment
pub record Does (old new : Parts) (moment : ℕ) (deed : Deed) (answer : Answer) : Type 0 where
  pub size_is : new.tree.size ≡ old.tree.size
  pub rows_are : rows_of new ≡ (step_of old moment deed).rows
  pub acts_are : AreMarked new (step_of old moment deed).acts
  pub outcome_is : answer.outcome ≡ (step_of old moment deed).outcome
  pub lasting_is : answer.lasting ≡ (step_of old moment deed).lasting

-- acts of quotas ran at a moment, and are marked: nothing else changed
pub record Ran (old new : Parts) (moment : ℕ) (acts : List Act) : Type 0 where
  pub parts_are : new ≡ record old { objects = new.objects; marks = new.marks }
  pub settles : Settles old.marks new.marks old.objects new.objects moment acts
  pub set : is_set new.marks.numbers ≡ true

-- parts with these quotas, and with their counters
abbrev pub recounted : Parts → List QuotaRow → Parts
recounted parts quotas =
    record parts { objects = record parts.objects { quotas = quotas }; usage = sums_of parts.tree.size parts.tree.nodes quotas }

-- the quotas became these with their counters, and the queue of scans turned: nothing else changed
pub record Turned (old new : Parts) (quotas : List QuotaRow) (queue : List ℕ) : Type 0 where
  pub parts_are : new ≡ recounted (record old { scans = new.scans }) quotas
  pub queue_is : new.scans.queue ≡ queue
  pub turns : Turns old.scans new.scans old.tree

-- parts whose counters were changed so at this moment, with the peaks raised of the folders that gained
abbrev pub charged_parts : Parts → Change → ℕ → Parts
charged_parts parts change moment =
    let counters = map (charged_counter parts.tree.nodes change) parts.usage in
    record parts {
      objects = record parts.objects { quotas = map (raised_above parts.tree.nodes change.to counters moment) parts.objects.quotas };
      usage = counters;
    }

-- parts after a command of this moment that lasts: peaks are raised, and its moment is the last one
abbrev pub ended : Parts → ℕ → Parts
ended parts moment =
    record parts {
      objects = record parts.objects { quotas = map (peaked parts.tree.size parts.tree.nodes moment) parts.objects.quotas };
      level = true;
      last_moment = moment;
    }
