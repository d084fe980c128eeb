-- the history that a replay leaves
use Rattle.std.proofs.Common.{◌≡◌, ◌+◌, ℕ, List, [], ◌++◌, Option, length, map, reverse, refl, sym, ap, ◌∙◌, arith}
use Rattle.std.specs.Prelude.{codes, not, unwrap_or}
use Rattle.std.specs.Arc.{arc_value}
use Rattle.std.proofs.lemmas.List.{length-append, length-map, length-reverse, map-append, nil_from_length, reverse-append}
use Rattle.sg_history.specs.declared.book.Waiting.{Waiting}
use Rattle.sg_history.specs.declared.entries.Entry.{Entry}
use Rattle.sg_history.specs.History.{History}
use Rattle.sg_history.specs.Journal.{journal_text}
use Rattle.principals.specs.declared.admin_line.AdminLine.{AdminLine}
use Rattle.record_file.specs.declared.record.Recorded.{Recorded}
use Rattle.gateway_config.specs.declared.config.Config.{Config}
use Rattle.write_path.specs.Own.{EndsWith, own_in_order}
use Rattle.write_path.specs.Solo.{Solo}
use Rattle.replay_in_turn.specs.Replay.{IsReplay}
use Rattle.replay_in_turn.specs.Sessions.{moment_of}
use Rattle.replay_in_turn.specs.inner.Shape.{AreSessionsRun, IsReplayBy, IsScriptRun}
use Rattle.transcripts.specs.Transcript.{runs_text}

in_order_more : (added own : List Waiting) → own_in_order (added ++ own) ≡ own_in_order own ++ own_in_order added
in_order_more added own = ap (λ (es : List Entry). reverse es) (map-append (λ (w : Waiting). w.entry) added own) ∙ reverse-append (map (λ (w : Waiting). w.entry) added) (map (λ (w : Waiting). w.entry) own)

length_in_order : (own : List Waiting) → length (own_in_order own) ≡ length own
length_in_order own = length-reverse (map (λ (w : Waiting). w.entry) own) ∙ length-map own (λ (w : Waiting). w.entry)

-- a log that ends with the own entries, and is as many longer than one that has no others, has those that were added behind it
pub final_log : (log later : List Entry) (own now added : List Waiting) → log ≡ own_in_order own → now ≡ added ++ own → length later ≡ length log + length added → EndsWith later now → later ≡ log ++ own_in_order added
final_log log later own now added all more count ends =
    let order : own_in_order now ≡ log ++ own_in_order added = ap (λ (es : List Waiting). own_in_order es) more ∙ in_order_more added own ∙ ap (λ (es : List Entry). es ++ own_in_order added) (sym all) in
    let size : length later ≡ length ends.0 + (length log + length added) =
    ap (λ (es : List Entry). length es) ends.1 ∙ length-append ends.0 (own_in_order now) ∙ ap (λ (n : ℕ). length ends.0 + n) (ap (λ (es : List Entry). length es) order ∙ length-append log (own_in_order added) ∙ ap (λ (n : ℕ). length log + n) (length_in_order added)) in
    let none : ends.0 ≡ [] = nil_from_length ends.0 (omega (arith, count, size)) in
    ends.1 ∙ ap (λ (opened : List Entry). opened ++ own_in_order now) none ∙ order

-- a replay, from what its functions hand on to one another
pub is_replay : (config : Config) (lines : List AdminLine) (records : List Recorded) (text : List ℕ)
    → IsReplayBy (arc_value config.program) (not config.conflicts) config.roles config.users lines records (codes "admin\n") text → IsReplay config lines records text
is_replay config lines records text by =
    let scripted : Solo = by.ground in
    let served : Solo = by.served.final in
    let script : IsScriptRun (arc_value config.program) (not config.conflicts) 2 lines by.script.opening scripted.board.log (codes "admin\n") by.between = by.script.run in
    let sessions : AreSessionsRun (arc_value config.program) (not config.conflicts) 1 records (moment_of scripted) (moment_of served) by.between by.served.between = by.served.sessions in
    let h : History = by.served.history in
    let many : length served.board.log ≡ length scripted.board.log + length sessions.added = ap (λ (n : Option ℕ). unwrap_or n 0) (sessions.count (length scripted.board.log) refl) in
    record {
      opening = by.script.opening;
      is_opening = by.script.is_opening;
      outcomes = script.outcomes;
      scripted = scripted.board.log;
      script = script.run;
      start = moment_of scripted;
      final = moment_of served;
      begins = refl;
      runs = sessions.runs;
      history = h;
      limit = by.served.limit;
      sessions = sessions.run h.entries by.served.later;
      added = sessions.added;
      own = sessions.own;
      stored = final_log scripted.board.log h.entries scripted.own served.own sessions.added by.script.own.log sessions.own (ap (λ (es : List Entry). length es) by.served.log ∙ many) by.served.ends;
      printed = by.served.printed
          ∙ ap (λ (t : List ℕ). t ++ codes "journal\n" ++ journal_text h) (sessions.printed ∙ ap (λ (t : List ℕ). t ++ runs_text 1 sessions.runs) script.printed);
    }
