use Rattle.std.proofs.Common.{deque_len, ◌≡◌, [], IfOk, sym, ap, subst, ◌∙◌, arith}
use Rattle.std.proofs.lemmas.Bool.{eqb-true}
use Rattle.blip_frame.specs.declared.frame.Kind.TheVariants as kinds
use Rattle.blip_mux.specs.Sending.{Sending, Sends, SendsAfter, next_piece}
use Rattle.blip_mux.proofs.Paused.{paused_none, none_paused, idle_none, no_first}
use Rattle.blip_mux.proofs.Picked.{of_first, after_first, first_goes, some_wait}
use Rattle.blip_mux.proofs.ToCome.{still_none}
use Rattle.blip_mux.proofs.outbox.Outbox.next_frame.Goals as goal

pub invariant_of-self : goal.invariant_of-self
invariant_of-self c = λ n above.
    still_none kinds.Msg n c.write_next.result c.self.inside.waiting c.write_next.new.self c.write_next.ensures.after c.write_next.ensures.err (λ h. h.0) (c.self.invariant n above)

pub returns-then-is_empty-clause-idle : goal.returns-then-is_empty-clause-idle
returns-then-is_empty-clause-idle c = λ none all.
    c.write_next.ensures.idle (ap (λ (s : Sending). next_piece s.waiting) c.self.view_is ∙ paused_none c.args.self.now.waiting all)

pub returns-then-is_empty-clause-only : goal.returns-then-is_empty-clause-only
returns-then-is_empty-clause-only c = λ e.
    let idle = subst (λ r. IfOk r (λ next. Sends (next_piece c.self.inside.waiting) next c.args.crc.now.value c.write_next.new.crc.value c.args.out.now c.write_next.new.out)) e c.write_next.ensures.frame in
    let none = idle_none c.self.inside.waiting c.args.crc.now.value c.write_next.new.crc.value c.args.out.now c.write_next.new.out idle in
    let long = c.self.inside.acknowledgements.ok.0 in
    let zero = eqb-true (deque_len c.self.inside.acknowledgements) 0 (sym c.is_empty.ensures ∙ c.if-is_empty.true) in
    let empty : c.self.inside.acknowledgements.items ≡ [] = no_first c.self.inside.acknowledgements.items (omega arith) in
    (sym (ap (λ (s : Sending). s.acknowledgements) c.self.view_is) ∙ empty, none_paused c.args.self.now.waiting (sym (ap (λ (s : Sending). next_piece s.waiting) c.self.view_is) ∙ none))

pub returns-else-is_empty-clause-frame : goal.returns-else-is_empty-clause-frame
returns-else-is_empty-clause-frame c =
    let long = c.self.inside.acknowledgements.ok.0 in
    let some = some_wait (deque_len c.self.inside.acknowledgements) (sym c.is_empty.ensures ∙ c.if-is_empty.false) in
    of_first _ c.args.self.now c.self.view_is c.write_first.result (λ f next. Sends f next c.args.crc.now.value c.write_first.new.crc.value c.args.out.now c.write_first.new.out) (omega arith) c.write_first.ensures.frame

pub returns-else-is_empty-clause-after : goal.returns-else-is_empty-clause-after
returns-else-is_empty-clause-after c =
    let long = c.self.inside.acknowledgements.ok.0 in
    let some = some_wait (deque_len c.self.inside.acknowledgements) (sym c.is_empty.ensures ∙ c.if-is_empty.false) in
    after_first _ c.args.self.now c.self.view_is c.write_first.result c.write_first.new.acknowledgements.items (omega arith) c.write_first.ensures.after

pub returns-else-is_empty-clause-only : goal.returns-else-is_empty-clause-only
returns-else-is_empty-clause-only c = λ e.
    let long = c.self.inside.acknowledgements.ok.0 in
    let some = some_wait (deque_len c.self.inside.acknowledgements) (sym c.is_empty.ensures ∙ c.if-is_empty.false) in
    first_goes c.self.inside.acknowledgements.items c.args.crc.now.value c.write_first.new.crc.value c.args.out.now c.write_first.new.out c.write_first.result (omega arith) c.write_first.ensures.frame e

pub returns-else-is_empty-clause-sent : goal.returns-else-is_empty-clause-sent
returns-else-is_empty-clause-sent c = λ sent was.
    let long = c.self.inside.acknowledgements.ok.0 in
    let some = some_wait (deque_len c.self.inside.acknowledgements) (sym c.is_empty.ensures ∙ c.if-is_empty.false) in
    of_first _ c.args.self.now c.self.view_is c.write_first.result (λ f next. SendsAfter sent f next c.write_first.new.crc.value c.args.out.now c.write_first.new.out) (omega arith) (λ a others is. c.write_first.ensures.sent a others is sent was)
