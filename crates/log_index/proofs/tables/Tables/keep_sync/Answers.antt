use Rattle.std.proofs.Common.{◌∙◌, refl, ap, ℕ, List, Option, Some, if◌then◌else◌, nat_eq}
use Rattle.std.specs.Prelude.{option_map}
use Rattle.std.proofs.lemmas.Result.{on_ok_weaker, on_err_weaker}
use Rattle.sg_history.specs.Puts.{replacement_in}
use Rattle.sg_history.specs.declared.entries.Mark.{Mark}
use Rattle.log_index.specs.Representation.{firsts_of, place_at, seq_place}
use Rattle.log_index.proofs.Pushes.{free_next, other_taken, same_marks, sync_taken}
use Rattle.log_index.proofs.tables.Tables.keep_sync.Goals as goal

pub returns-in-None-clause-ok : goal.returns-in-None-clause-ok
returns-in-None-clause-ok c = λ es e none sync at is.
    other_taken c.args.self.now es e is none c.args.seq at (sync ∙ ap (λ o. option_map replacement_in o) c.in-None.is)

pub returns-in_ok-firsts-in-Some-clause-ok : goal.returns-in_ok-firsts-in-Some-clause-ok
returns-in_ok-firsts-in-Some-clause-ok c =
    on_ok_weaker c.put_places.result
    (λ put es e none sync at is.
    sync_taken c.args.self.now c.put_places.new.places c.in_ok-firsts-in-Some.firsts.items c.in-Some.replacement.marks.now (Some (replacement_in c.in-Some.replacement)) c.args.seq refl
    (λ fs has. c.in_ok-firsts-in-Some.ensures fs has ∙ ap (λ (ms : List Mark). firsts_of fs ms) c.as_slice.ensures)
    (λ free f s. put free f s ∙ ap (λ (xs : List (Option ℕ)). if nat_eq c.args.seq s then seq_place 0 xs f else place_at c.args.self.now.marks f s) c.as_slice-in-Some.ensures.value)
    es e none (sync ∙ ap (λ o. option_map replacement_in o) c.in-Some.is) at is)
    c.put_places.ensures.ok

pub returns-in_ok-firsts-in-Some-clause-err : goal.returns-in_ok-firsts-in-Some-clause-err
returns-in_ok-firsts-in-Some-clause-err c =
    on_err_weaker c.put_places.result
    (λ kept es at is. same_marks c.args.self.now c.put_places.new.places es (kept (free_next c.args.self.now es c.args.seq is at)) is)
    c.put_places.ensures.err
