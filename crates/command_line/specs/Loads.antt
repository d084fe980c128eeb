-- the loads of a command: its files in the order of the words, each of which is good or bad by what its bytes are
use Rattle.std.specs.Prelude.{◌≡◌, ◌⊎◌, ℕ, ◌+◌, List, [], ◌∷◌, Option, Result, Ok, Err}
use Rattle.sg_outside.specs.Files.{Load}
use Rattle.sg_outside.specs.declared.files.Loaded.{Loaded}
use Rattle.sg_outside.specs.declared.files.Loaded.TheVariants.{Whole, Longer, Failed, Memory}
use Rattle.sg_history.specs.declared.fault.Why.{Why}
use Rattle.sg_history.specs.declared.fault.Why.TheVariants.{Long}
use Rattle.command_line.specs.declared.status.Status.{Status}
use Rattle.command_line.specs.declared.status.Status.TheVariants as status
use Rattle.command_line.specs.Run.{HasFile, HasNoFile}

-- what an answer to the load of the file with this number comes to
abbrev pub IsLoadAnswer : {X : Type 0} → ℕ → Loaded → Result X Status → Type 0
IsLoadAnswer number Whole (Ok x) = Unit {0}
IsLoadAnswer number Whole (Err s) = ⊥
IsLoadAnswer number Longer (Ok x) = ⊥
IsLoadAnswer number Longer (Err s) = s ≡ status.BadInput number 0 Long
IsLoadAnswer number Failed (Ok x) = ⊥
IsLoadAnswer number Failed (Err s) = s ≡ status.ReadFault
IsLoadAnswer number Memory (Ok x) = ⊥
IsLoadAnswer number Memory (Err s) = s ≡ status.Memory

-- a file that was loaded whole, or is too long, is there
abbrev pub NeedsFile : Option (List ℕ → Option (List ℕ)) → List ℕ → Loaded → Type 0
NeedsFile recorded name Whole = ¬ HasNoFile recorded name
NeedsFile recorded name Longer = ¬ HasNoFile recorded name
NeedsFile recorded name Failed = Unit {0}
NeedsFile recorded name Memory = Unit {0}

module _ (recorded : Option (List ℕ → Option (List ℕ))) (IsGood : ℕ → List ℕ → Type 0) (IsBad : ℕ → List ℕ → ℕ → Why → Type 0) where
  -- the file was loaded whole, so there is one, and where its bytes are recorded they are good
  pub record IsAcceptedLoad (number : ℕ) (name : List ℕ) (load : Load) : Type 0 where
    pub load_is : load ≡ record { name = name; answer = Whole }
    pub there : ¬ HasNoFile recorded name
    pub good : (bytes : List ℕ) → HasFile recorded name bytes → IsGood number bytes

  -- all files were loaded, in order, of which the first has this number among the words
  abbrev pub AreAcceptedLoads : ℕ → List (List ℕ) → List Load → Type 0
  AreAcceptedLoads number [] [] = Unit {0}
  AreAcceptedLoads number (name ∷ names) (load ∷ loads) = IsAcceptedLoad number name load × AreAcceptedLoads (number + 1) names loads
  AreAcceptedLoads number [] (load ∷ loads) = ⊥
  AreAcceptedLoads number (name ∷ names) [] = ⊥

  -- what the status says of the last file that was loaded: that it was not read, is too long, is bad at this place, or that memory ran out
  abbrev pub TellsOf : ℕ → List ℕ → Loaded → Status → Type 0
  TellsOf number name Failed s = s ≡ status.ReadFault
  TellsOf number name Memory s = s ≡ status.Memory
  TellsOf number name Longer s = (s ≡ status.BadInput number 0 Long) × ¬ HasNoFile recorded name
  TellsOf number name Whole s =
      (s ≡ status.Memory)
      ⊎ ((place : ℕ) × (why : Why) × (s ≡ status.BadInput number place why) × (¬ HasNoFile recorded name) × ((bytes : List ℕ) → HasFile recorded name bytes → IsBad number bytes place why))

  -- the run stopped at the last file that was loaded, or out of memory before the next: each file before it was accepted
  abbrev pub IsStopped : ℕ → List (List ℕ) → List Load → Status → Type 0
  IsStopped number [] loads s = ⊥
  IsStopped number (name ∷ names) [] s = s ≡ status.Memory
  IsStopped number (name ∷ names) (load ∷ []) s = (load.name ≡ name) × TellsOf number name load.answer s
  IsStopped number (name ∷ names) (load ∷ next ∷ loads) s = IsAcceptedLoad number name load × IsStopped (number + 1) names (next ∷ loads) s

  -- the loads that led to this: all files were accepted, or the run stopped at one
  abbrev pub LoadsOf : {X : Type 0} → ℕ → List (List ℕ) → List Load → Result X Status → Type 0
  LoadsOf number names loads (Ok x) = AreAcceptedLoads number names loads
  LoadsOf number names loads (Err s) = IsStopped number names loads s

  -- how a run may end that loads these files
  abbrev pub EndsLoads : ℕ → List (List ℕ) → List Load → Status → Type 0
  EndsLoads number names loads s =
      (AreAcceptedLoads number names loads × ((s ≡ status.Ok) ⊎ (s ≡ status.WriteFault) ⊎ (s ≡ status.Memory))) ⊎ IsStopped number names loads s
