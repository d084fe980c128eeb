-- how the parts of a run make the whole
use Rattle.std.proofs.Common.{◌≡◌, ◌≢◌, ℕ, ◌<◌, ◌≤◌, List, [], ◌∷◌, length, map, refl, sym, ap, ◌∙◌, subst, Option}
use Rattle.std.specs.Prelude.{Result, Ok, Err, IfErr}
use Rattle.sg_outside.specs.Files.{largest_file}
use Rattle.sg_history.specs.declared.fault.Why.{Why}
use Rattle.command_line.specs.declared.status.Status.{Status}
use Rattle.command_line.specs.declared.status.Status.TheVariants as status
use Rattle.command_line.specs.Run.{Counted, EndsAbsent, EndsLoaded, IsLoaded, Prints}
use Rattle.config_check.specs.declared.verdict.Verdict.{Verdict}
use Rattle.config_check.specs.declared.verdict.Verdict.TheVariants.{Good, Long, Bad}
use Rattle.config_check.specs.Run.{EndsVerdict, IsFoundVerdict, PrintsVerdict, verdict_status}
use Rattle.config_check.specs.Line.{verdict_line}
use Rattle.config_check.specs.Verdict.{IsVerdict}

-- what was printed is what is said of the file
pub printed : (s : Status) (v : Verdict) (bytes : List ℕ) (faults faults' : ℕ) (before after : Option (List ℕ)) → IsVerdict bytes v → PrintsVerdict s v faults faults' before after → EndsVerdict s bytes before after
printed status.Ok v bytes faults faults' before after is p = (v, is, p.0, p.1)
printed (status.BadInput file place why) v bytes faults faults' before after is p = (v, is, p.0, p.1)
printed status.WriteFault v bytes faults faults' before after is p = (v, is, p.1)
printed status.Memory v bytes faults faults' before after is p = p
printed status.BadWords v bytes faults faults' before after is p = p
printed status.ReadFault v bytes faults faults' before after is p = absurd p
printed status.DoorFault v bytes faults faults' before after is p = p

-- nothing was found
pub not_found : (s : Status) (bytes : List ℕ) (taken : Option (List ℕ)) → IsFoundVerdict bytes (Err s) → EndsVerdict s bytes taken taken
not_found status.Ok bytes taken f = absurd f
not_found (status.BadInput file place why) bytes taken f = absurd f
not_found status.WriteFault bytes taken f = absurd f
not_found status.Memory bytes taken f = refl
not_found status.BadWords bytes taken f = f
not_found status.ReadFault bytes taken f = refl
not_found status.DoorFault bytes taken f = f

-- a printing counts what it fails at
pub print_counted : (s : Status) (v : Verdict) (read read' wrote wrote' : ℕ) (before after : Option (List ℕ)) → PrintsVerdict s v wrote wrote' before after → Counted s read read' wrote wrote'
print_counted status.Ok v read read' wrote wrote' before after p = tt
print_counted (status.BadInput file place why) v read read' wrote wrote' before after p = tt
print_counted status.WriteFault v read read' wrote wrote' before after p = p.0
print_counted status.Memory v read read' wrote wrote' before after p = tt
print_counted status.BadWords v read read' wrote wrote' before after p = absurd p
print_counted status.ReadFault v read read' wrote wrote' before after p = absurd p
print_counted status.DoorFault v read read' wrote wrote' before after p = p

-- a printing is no refusal of the words
pub print_words : (s : Status) (v : Verdict) (faults faults' : ℕ) (before after : Option (List ℕ)) → PrintsVerdict s v faults faults' before after → s ≢ status.BadWords
print_words status.Ok v faults faults' before after p e = cc (e)
print_words (status.BadInput file place why) v faults faults' before after p e = cc (e)
print_words status.WriteFault v faults faults' before after p e = cc (e)
print_words status.Memory v faults faults' before after p e = cc (e)
print_words status.BadWords v faults faults' before after p e = absurd p
print_words status.ReadFault v faults faults' before after p e = cc (e)
print_words status.DoorFault v faults faults' before after p e = cc (e)

-- the line was not printed whole
pub broken_off : (s : Status) (v : Verdict) (faults faults' : ℕ) (before after : Option (List ℕ)) → s ≢ status.Ok → Prints s (verdict_line v) faults faults' before after → PrintsVerdict s v faults faults' before after
broken_off status.Ok v faults faults' before after other p = absurd (other refl)
broken_off (status.BadInput file place why) v faults faults' before after other p = absurd p
broken_off status.WriteFault v faults faults' before after other p = p
broken_off status.Memory v faults faults' before after other p = p
broken_off status.BadWords v faults faults' before after other p = p
broken_off status.ReadFault v faults faults' before after other p = p
broken_off status.DoorFault v faults faults' before after other p = p

-- the line was printed whole, and the status is that of the verdict
pub told : (v : Verdict) (s : Status) (faults faults' : ℕ) (before after : Option (List ℕ)) → s ≡ verdict_status v → Prints status.Ok (verdict_line v) faults faults' before after → PrintsVerdict s v faults faults' before after
told Good s faults faults' before after is p = subst (λ x. PrintsVerdict x Good faults faults' before after) (sym is) (refl, p)
told Long s faults faults' before after is p = subst (λ x. PrintsVerdict x Long faults faults' before after) (sym is) (refl, p)
told (Bad r) s faults faults' before after is p = subst (λ x. PrintsVerdict x (Bad r) faults faults' before after) (sym is) (refl, p)

-- of a file that was loaded something was found, or memory ran out
pub found_loaded : (r : Result Verdict Status) (before after : ℕ) → IfErr r (λ s. s ≡ status.Memory) → before ≤ after → EndsLoaded r before after
found_loaded (Ok v) before after h le = le
found_loaded (Err s) before after h le = subst (λ x. EndsLoaded {X = Verdict} (Err x) before after) (sym h) le

-- a file that is refused at its loading is too long
pub too_long : (s : Status) (file place : ℕ) (why : Why) (bytes : List ℕ) → s ≡ status.BadInput file place why → IsLoaded 1 bytes (Err s) → largest_file < length bytes
too_long s file place why bytes is h = (subst (λ x. IsLoaded 1 bytes (Err x)) is h).1
