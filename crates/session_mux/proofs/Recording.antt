-- What a wire records.
use Rattle.std.proofs.Common.{◌≡◌, ◌≢◌, ℕ, List, [], ◌∷◌, ◌++◌, Option, Some, None, refl, sym, ◌∙◌, ap, subst, append-nil}
use Rattle.std.proofs.lemmas.List.{append_assoc}
use Rattle.sg_outside.specs.Wire.{Traffic, next_of, after_next, ReceivesIfRecorded, SendsIfRecorded, sent_after}
use Rattle.sg_outside.specs.declared.sink.Gave.{Gave}
use Rattle.sg_outside.specs.declared.sink.Gave.TheVariants as gave
use Rattle.sg_outside.specs.declared.wire.Got.{Got}
use Rattle.sg_outside.specs.declared.wire.Got.TheVariants as got
use Rattle.session_mux.specs.Sent.{AreNext, answered, Records}
use Rattle.session_mux.specs.Muxed.{failure_of}

next_on : (coming got middle more left : List Got) → AreNext coming got middle → AreNext middle more left → AreNext coming (got ++ more) left
next_on coming [] middle more left a b = subst (λ c. AreNext c more left) a b
next_on coming (g ∷ got) middle more left (first, a) b = (first, next_on (after_next coming) got middle more left a b)

answered_on : (sent more : List (List ℕ)) (failed : List Gave) → answered (sent ++ more) failed ≡ answered sent [] ++ answered more failed
answered_on [] more failed = refl
answered_on (text ∷ sent) more failed = ap (λ g. gave.Done ∷ g) (answered_on sent more failed)

-- nothing
pub records_none : (traffic : Option Traffic) → Records traffic [] [] [] traffic
records_none None = refl
records_none (Some t) = (t, refl, sym (append-nil t.got), sym (append-nil t.sent), sym (append-nil t.gave), refl, refl)

recorded_on : (t u : Traffic) (after : Option Traffic) (got more_got : List Got) (sent more_sent : List (List ℕ)) (failed : List Gave)
    → u.got ≡ t.got ++ got → u.sent ≡ t.sent ++ sent → u.gave ≡ t.gave ++ answered sent [] → u.line ≡ t.line → AreNext t.coming got u.coming
    → Records (Some u) more_got more_sent failed after → Records (Some t) (got ++ more_got) (sent ++ more_sent) failed after
recorded_on t u after got more_got sent more_sent failed got_is sent_is gave_is line_is next (v, e, more_got_is, more_sent_is, more_gave_is, more_line_is, more_next) = (
  v,
  e,
  more_got_is ∙ ap (λ g. g ++ more_got) got_is ∙ append_assoc t.got got more_got,
  more_sent_is ∙ ap (λ s. s ++ more_sent) sent_is ∙ append_assoc t.sent sent more_sent,
  more_gave_is ∙ ap (λ g. g ++ answered more_sent failed) gave_is ∙ append_assoc t.gave (answered sent []) (answered more_sent failed)
      ∙ ap (λ g. t.gave ++ g) (sym (answered_on sent more_sent failed)),
  more_line_is ∙ line_is,
  next_on t.coming got u.coming more_got v.coming next more_next,
)

-- and then more, as long as nothing failed
pub records_on : (traffic between after : Option Traffic) (got more_got : List Got) (sent more_sent : List (List ℕ)) (failed : List Gave)
    → Records traffic got sent [] between → Records between more_got more_sent failed after → Records traffic (got ++ more_got) (sent ++ more_sent) failed after
records_on None between after got more_got sent more_sent failed a b = subst (λ t. Records t more_got more_sent failed after) a b
records_on (Some t) between after got more_got sent more_sent failed (u, e, got_is, sent_is, gave_is, line_is, next) b =
    recorded_on t u after got more_got sent more_sent failed got_is sent_is gave_is line_is next (subst (λ t. Records t more_got more_sent failed after) e b)

-- a frame that was sent
pub records_sent : (traffic after : Option Traffic) (bytes : List ℕ) → SendsIfRecorded traffic bytes gave.Done after → Records traffic [] (bytes ∷ []) [] after
records_sent None after bytes e = e
records_sent (Some t) after bytes e = (sent_after t bytes gave.Done, e, sym (append-nil t.got), refl, refl, refl, refl)

-- a frame that was not
pub records_other : (traffic after : Option Traffic) (bytes : List ℕ) (result : Gave) → result ≢ gave.Done → SendsIfRecorded traffic bytes result after → Records traffic [] [] (failure_of result) after
records_other traffic after bytes gave.Done other sent = absurd (other refl)
records_other None after bytes gave.Failed other e = e
records_other None after bytes gave.Memory other e = e
records_other (Some t) after bytes gave.Failed other e = (sent_after t bytes gave.Failed, e, sym (append-nil t.got), sym (append-nil t.sent), refl, refl, refl)
records_other (Some t) after bytes gave.Memory other e = (t, e, sym (append-nil t.got), sym (append-nil t.sent), sym (append-nil t.gave), refl, refl)

-- ---- what is received

-- one result
recorded_next : (t u : Traffic) (result : Got) → u ≡ record t { got = t.got ++ result ∷ []; coming = after_next t.coming } → result ≡ next_of t.coming
    → Records (Some t) (result ∷ []) [] [] (Some u)
recorded_next t u result e next = (
  u,
  refl,
  ap (λ (t : Traffic). t.got) e,
  ap (λ (t : Traffic). t.sent) e ∙ sym (append-nil t.sent),
  ap (λ (t : Traffic). t.gave) e ∙ sym (append-nil t.gave),
  ap (λ (t : Traffic). t.line) e,
  (next, ap (λ (t : Traffic). t.coming) e),
)

pub records_received : (traffic after : Option Traffic) (result : Got) → ReceivesIfRecorded traffic result after → (result ≡ got.Memory → ⊥) → Records traffic (result ∷ []) [] [] after
records_received None after result e other = e
records_received (Some t) after (got.Frame bytes) (u, e, next) other = subst (Records (Some t) (got.Frame bytes ∷ []) [] []) (sym e) (recorded_next t u (got.Frame bytes) next.1 next.0)
records_received (Some t) after got.Text (u, e, next) other = subst (Records (Some t) (got.Text ∷ []) [] []) (sym e) (recorded_next t u got.Text next.1 next.0)
records_received (Some t) after got.Idle (u, e, next) other = subst (Records (Some t) (got.Idle ∷ []) [] []) (sym e) (recorded_next t u got.Idle next.1 next.0)
records_received (Some t) after got.End (u, e, next) other = subst (Records (Some t) (got.End ∷ []) [] []) (sym e) (recorded_next t u got.End next.1 next.0)
records_received (Some t) after got.Failed (u, e, next) other = subst (Records (Some t) (got.Failed ∷ []) [] []) (sym e) (recorded_next t u got.Failed next.1 next.0)
records_received (Some t) after got.Memory (u, e, next) other = absurd (other refl)

-- none, out of memory
pub records_not_received : (traffic after : Option Traffic) → ReceivesIfRecorded traffic got.Memory after → Records traffic [] [] [] after
records_not_received None after e = e
records_not_received (Some t) after (u, e, same) =
    subst (Records (Some t) [] [] []) (sym e) (subst (λ u. Records (Some t) [] [] [] (Some u)) (sym same) (records_none (Some t)))
