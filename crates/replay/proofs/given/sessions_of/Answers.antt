use Rattle.sg_outside.specs.declared.mem_wire.MemWire.{MemWire}
use Rattle.repl_messages.specs.declared.request.Version.{Version}
use Rattle.std.proofs.Common.{ℕ, ◌≡◌, ◌++◌, ◌∷◌, [], ◌∙◌, List, length, map, ap, sym, arith, append-nil}
use Rattle.std.proofs.lemmas.List.{append_assoc, nil_from_length}
use Rattle.record_file.specs.declared.record.Recorded.{Recorded}
use Rattle.replay.specs.Replay.{device_of}
use Rattle.replay.proofs.Printing.{given_of, one_more}
use Rattle.replay.proofs.given.sessions_of.Goals as goal

pub loop-one-init : goal.loop-one-init
loop-one-init c = record { made = search; all = search; len = search }

pub loop-one-preserved : goal.loop-one-preserved
loop-one-preserved c =
    let pushed : c.push.new.self.items ≡ c.loop-one.sessions.items ++ c.in_ok-session_of.field-0 ∷ [] = c.in_ok-push.ensures.items in record {
      made = ap (λ (l : List (List ℕ × Version × MemWire)). map given_of l) pushed ∙ one_more given_of device_of c.loop-one.sessions.items c.loop-one.yielded c.in_ok-session_of.field-0 c.in-Some.one c.loop-one.invariant.made c.in_ok-session_of.ensures;
      all = c.loop-one.invariant.all ∙ ap (λ (l : List Recorded). c.loop-one.yielded ++ l) c.in-Some.ensures.steps.0 ∙ sym (append_assoc c.loop-one.yielded (c.in-Some.one ∷ []) _);
      len = omega (arith, c.loop-one.invariant.len, c.in-Some.ensures.steps.1, ap (λ (l : List Recorded). length l) c.in-Some.ensures.steps.0);
    }

pub returns : goal.returns
returns c =
    let none : c.loop-one.one-iterator.rest.items ≡ [] = nil_from_length c.loop-one.one-iterator.rest.items (omega (arith, c.loop-one.invariant.len, c.in-None.ensures.steps.0)) in
    let whole : c.args.recorded.items ≡ c.loop-one.yielded = c.loop-one.invariant.all ∙ ap (λ (l : List Recorded). c.loop-one.yielded ++ l) none ∙ append-nil c.loop-one.yielded in
    ap (λ (l : List (List ℕ × Version × MemWire)). map given_of l) c.from_vec.ensures ∙ c.loop-one.invariant.made ∙ ap (λ (l : List Recorded). map device_of l) (sym whole)
