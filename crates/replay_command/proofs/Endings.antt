-- how the parts of a run make the whole
use Rattle.std.proofs.Common.{◌≡◌, ◌⊎◌, ℕ, List, Option, Err, refl, inl, inr}
use Rattle.command_line.specs.declared.status.Status.{Status}
use Rattle.command_line.specs.declared.status.Status.TheVariants as status
use Rattle.gateway_config.specs.declared.config.Config.{Config}
use Rattle.principals.specs.declared.admin_line.AdminLine.{AdminLine}
use Rattle.record_file.specs.declared.record.Recorded.{Recorded}
use Rattle.replay_command.specs.Inputs.{AreInputs, Contents, Inputs}
use Rattle.replay_command.specs.Loading.{AreInputsRead, PrintsReplay}
use Rattle.replay_command.specs.Replays.{EndsReplay}

-- ---- a replay of this kind
module _ (Is : Config → List AdminLine → List Recorded → List ℕ → Type 0) where
  -- what was printed is the transcript of a replay of the files
  pub replayed : (s : Status) (contents : Contents) (i : Inputs) (faults faults' : ℕ) (before after : Option (List ℕ)) → AreInputs contents i → PrintsReplay Is s i faults faults' before after → EndsReplay Is s contents before after
  replayed status.Ok contents i faults faults' before after are p = (p.0, record { inputs = i; are_inputs = are; replay = p.1 }, p.2)
  replayed status.BadWords contents i faults faults' before after are p = p
  replayed (status.BadInput file place why) contents i faults faults' before after are p = absurd p
  replayed status.ReadFault contents i faults faults' before after are p = tt
  replayed status.WriteFault contents i faults faults' before after are p = (p.1, record { inputs = i; are_inputs = are; replay = p.2 }, p.3)
  replayed status.DoorFault contents i faults faults' before after are p = absurd p
  replayed status.Memory contents i faults faults' before after are p = tt

  -- files that were not read
  pub not_read : (s : Status) (contents : Contents) (before after : Option (List ℕ)) → AreInputsRead contents (Err s) → EndsReplay Is s contents before after
  not_read status.Ok contents before after r = absurd r
  not_read status.BadWords contents before after r = r
  not_read (status.BadInput file place why) contents before after r = r
  not_read status.ReadFault contents before after r = tt
  not_read status.WriteFault contents before after r = absurd r
  not_read status.DoorFault contents before after r = absurd r
  not_read status.Memory contents before after r = tt

  -- what is printed ends in one of three ways
  pub printed_status : (s : Status) (i : Inputs) (faults faults' : ℕ) (before after : Option (List ℕ)) → PrintsReplay Is s i faults faults' before after → (s ≡ status.Ok) ⊎ (s ≡ status.WriteFault) ⊎ (s ≡ status.Memory)
  printed_status status.Ok i faults faults' before after p = inl refl
  printed_status status.BadWords i faults faults' before after p = absurd p
  printed_status (status.BadInput file place why) i faults faults' before after p = absurd p
  printed_status status.ReadFault i faults faults' before after p = absurd p
  printed_status status.WriteFault i faults faults' before after p = inr (inl refl)
  printed_status status.DoorFault i faults faults' before after p = absurd p
  printed_status status.Memory i faults faults' before after p = inr (inr refl)
