-- one session of a replay
use Rattle.std.proofs.Common.{◌≡◌, ◌+◌, ℕ, Bool, List, [], ◌++◌, length, map, reverse, Option, Some, refl, sym, ap, ◌∙◌, subst}
use Rattle.std.proofs.lemmas.List.{append_assoc, length-map, length-reverse}
use Rattle.std.specs.Arc.{arc_value}
use Rattle.sg_outside.specs.Wire.{Traffic}
use Rattle.sg_outside.specs.MemWire.{traffic}
use Rattle.sg_outside.specs.declared.sink.Gave.{Gave}
use Rattle.sg_outside.specs.declared.wire.Got.{Got}
use Rattle.sg_history.specs.declared.book.Waiting.{Waiting}
use Rattle.record_file.specs.declared.record.Recorded.{Recorded}
use Rattle.record_file.specs.Record.{results_of}
use Rattle.sync_syntax.specs.declared.tree.Program.{Program}
use Rattle.write_path.specs.Reads.{Reads}
use Rattle.session_run.specs.declared.ended.Ended.{Ended}
use Rattle.session_run.specs.declared.serve.Setup.{Setup}
use Rattle.session_run.specs.Answered.{Moment}
use Rattle.session_run.specs.Judged.{AreJudged}
use Rattle.session_run.specs.Served.{IsServed, IsSession}
use Rattle.replay_in_turn.specs.Sessions.{IsSetup}
use Rattle.replay_in_turn.specs.inner.Shape.{IsServedTo, IsSessionRun}
use Rattle.transcripts.specs.Transcript.{ended_lines, title_line}

abbrev pub OwnLaw : Type 0
OwnLaw = (setup : Setup) (start final : Moment) (ended : Ended) (results : List Got) (sent : List (List ℕ)) (failed : List Gave) → IsSession setup start final ended results sent failed
    → (added : List Waiting) × (final.own ≡ added ++ start.own) × (map (λ (w : Waiting). w.number) added ≡ reverse ended.stored) × AreJudged (arc_value setup.program) setup.user start.read final.read added

abbrev pub ReadsLaw : Type 0
ReadsLaw = (setup : Setup) (start final : Moment) (ended : Ended) (results : List Got) (sent : List (List ℕ)) (failed : List Gave) → IsSession setup start final ended results sent failed
    → Reads start.read final.read start.lowest final.lowest

abbrev pub RecordedLaw : Type 0
RecordedLaw = (setup : Setup) (start final : Moment) (ended : Ended) (results : List Got) (sent : List (List ℕ)) (failed : List Gave) (n : ℕ) → IsSession setup start final ended results sent failed
    → start.recorded ≡ Some n → final.recorded ≡ Some (n + length ended.stored)

pub session_is : OwnLaw → ReadsLaw → RecordedLaw → (program : Program) (strict : Bool) (number : ℕ) (recorded : Recorded) (setup : Setup) (start final : Moment) (before : Option Traffic) (text titled whole : List ℕ)
    → IsSetup program strict recorded setup → before ≡ Some (traffic (results_of recorded.items) 0 [] []) → IsServedTo setup start final before titled whole
    → titled ≡ text ++ title_line number recorded.user
    → IsSessionRun program strict number recorded start final text whole
session_is own reads recorded_law program strict number recorded setup start final before text titled whole is_setup came is first =
    let ended : Ended = is.ended in
    let after : Traffic = is.after in
    let served : IsServed setup start final before ended (Some after) = is.served in
    let found = own setup start final ended served.results served.sent served.failed served.session in
    let many : length found.0 ≡ length ended.stored =
    sym (length-map found.0 (λ (w : Waiting). w.number)) ∙ ap (λ (ns : List ℕ). length ns) found.2 ∙ length-reverse ended.stored in
    record {
      session = record { user = recorded.user; ended = ended; sent = after.sent };
      run = λ history later. record {
        setup = setup;
        is_setup = is_setup;
        after = after;
        served = subst (λ (t : Option Traffic). IsServed setup start final t ended (Some after)) came served;
        user = refl;
        sent = refl;
        later = later;
      };
      reads = reads setup start final ended served.results served.sent served.failed served.session;
      added = found.0;
      own = found.1;
      count = λ n is. recorded_law setup start final ended served.results served.sent served.failed n served.session is ∙ ap (λ (m : ℕ). Some (n + m)) (sym many);
      printed = is.printed ∙ ap (λ (t : List ℕ). t ++ ended_lines ended after.sent) first ∙ append_assoc text (title_line number recorded.user) (ended_lines ended after.sent);
    }
