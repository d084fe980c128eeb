use Rattle.std.proofs.Common.{◌≡◌, ◌∙◌, sym, ap, subst, arith, ◌+◌, ◌-◌, ◌<◌, ◌∷◌, ℕ, List, length, Some, inl, inr}
use Rattle.std.specs.Prelude.{slice_get}
use Rattle.sg_history.specs.declared.entries.Entry.{Entry}
use Rattle.sg_history.specs.History.{past}
use Rattle.grant_history.specs.AppliedLog.{AppliedLog}
use Rattle.grant_history.specs.LedgerAt.{LedgerAt, IsNextApplied}
use Rattle.grant_history.specs.Store.{last_changes}
use Rattle.grant_history.specs.Stands.{IsIndexed, StandsFor}
use Rattle.grant_history.proofs.Applied.{past_next, past_count, to_either, from_either, kept_by_log, kept_by_index, next_one, gave_same}
use Rattle.grant_history.proofs.history.GrantHistory.step.Goals as goal

pub invariant_of-self : goal.invariant_of-self
invariant_of-self c =
    let entries = c.args.log.now.entries in
    let n = c.self.inside.applied in
    let e = c.entry-entry.result.now in
    let stood : StandsFor (record { applied = n; index = c.self.inside.index; changed = last_changes c.self.inside.ledger.store }) entries = subst (λ (h : AppliedLog). StandsFor h entries) (sym c.self.view_is) c.requires.stands in
    let minus : n + 1 - 1 ≡ n = omega arith in
    let is : slice_get entries n ≡ Some e = ap (λ (m : ℕ). slice_get entries m) (sym minus) ∙ c.entry-entry.ensures.entry in
    let more : n < length entries = omega (arith, c.requires.more, c.requires.within, ap (λ (h : AppliedLog). h.applied) c.self.view_is) in
    let place : n + 1 ≡ length (past entries n) + 1 = omega (arith, past_count entries n (omega (arith, more))) in
    let kept : LedgerAt c.self.inside.ledger entries n = kept_by_log c.self.inside.ledger _ entries stood c.self.invariant in
    let either : IsIndexed c.index_entry.new.index entries n = from_either c.index_entry.new.index entries n e is more (c.in_err-index_entry.ensures.err (past entries n) place (to_either c.self.inside.index entries n e is more stood.index)) in
    kept_by_index c.self.inside.ledger c.index_entry.new.index entries n either kept

pub returns-in_err-index_entry-clause-stands : goal.returns-in_err-index_entry-clause-stands
returns-in_err-index_entry-clause-stands c =
    let entries = c.args.log.now.entries in
    let n = c.self.inside.applied in
    let e = c.entry-entry.result.now in
    let stood : StandsFor (record { applied = n; index = c.self.inside.index; changed = last_changes c.self.inside.ledger.store }) entries = subst (λ (h : AppliedLog). StandsFor h entries) (sym c.self.view_is) c.requires.stands in
    let minus : n + 1 - 1 ≡ n = omega arith in
    let is : slice_get entries n ≡ Some e = ap (λ (m : ℕ). slice_get entries m) (sym minus) ∙ c.entry-entry.ensures.entry in
    let more : n < length entries = omega (arith, c.requires.more, c.requires.within, ap (λ (h : AppliedLog). h.applied) c.self.view_is) in
    let place : n + 1 ≡ length (past entries n) + 1 = omega (arith, past_count entries n (omega (arith, more))) in
    let either : IsIndexed c.index_entry.new.index entries n = from_either c.index_entry.new.index entries n e is more (c.in_err-index_entry.ensures.err (past entries n) place (to_either c.self.inside.index entries n e is more stood.index)) in
    record { within = stood.within; index = either }

pub take_entry-requires : goal.take_entry-requires
take_entry-requires c =
    let entries = c.args.log.now.entries in
    let n = c.self.inside.applied in
    let e = c.entry-entry.result.now in
    let stood : StandsFor (record { applied = n; index = c.self.inside.index; changed = last_changes c.self.inside.ledger.store }) entries = subst (λ (h : AppliedLog). StandsFor h entries) (sym c.self.view_is) c.requires.stands in
    let minus : n + 1 - 1 ≡ n = omega arith in
    let is : slice_get entries n ≡ Some e = ap (λ (m : ℕ). slice_get entries m) (sym minus) ∙ c.entry-entry.ensures.entry in
    let more : n < length entries = omega (arith, c.requires.more, c.requires.within, ap (λ (h : AppliedLog). h.applied) c.self.view_is) in
    let place : n + 1 ≡ length (past entries n) + 1 = omega (arith, past_count entries n (omega (arith, more))) in
    let kept : LedgerAt c.self.inside.ledger entries n = kept_by_log c.self.inside.ledger _ entries stood c.self.invariant in
    let has : c.index_entry.new.index ≡ e ∷ past entries n = c.in_ok-index_entry.ensures.ok (past entries n) place (to_either c.self.inside.index entries n e is more stood.index) in
    subst (λ (all : List Entry). IsNextApplied c.index_entry.new.index c.self.inside.ledger all e (n + 1)) (sym c.entry-entry.ensures.kept)
    (next_one c.index_entry.new.index c.self.inside.ledger entries n e is more has kept)

pub invariant_of-self-in_err-take_entry : goal.invariant_of-self-in_err-take_entry
invariant_of-self-in_err-take_entry c =
    let entries = c.args.log.now.entries in
    let n = c.self.inside.applied in
    let e = c.entry-entry.result.now in
    let stood : StandsFor (record { applied = n; index = c.self.inside.index; changed = last_changes c.self.inside.ledger.store }) entries = subst (λ (h : AppliedLog). StandsFor h entries) (sym c.self.view_is) c.requires.stands in
    let minus : n + 1 - 1 ≡ n = omega arith in
    let is : slice_get entries n ≡ Some e = ap (λ (m : ℕ). slice_get entries m) (sym minus) ∙ c.entry-entry.ensures.entry in
    let more : n < length entries = omega (arith, c.requires.more, c.requires.within, ap (λ (h : AppliedLog). h.applied) c.self.view_is) in
    let place : n + 1 ≡ length (past entries n) + 1 = omega (arith, past_count entries n (omega (arith, more))) in
    let ahead : c.index_entry.new.index ≡ past entries (n + 1) = c.in_ok-index_entry.ensures.ok (past entries n) place (to_either c.self.inside.index entries n e is more stood.index) ∙ sym (past_next entries n e is) in
    let left : LedgerAt c.take_entry.new.ledger entries n = subst (λ (m : ℕ). LedgerAt c.take_entry.new.ledger entries m) minus
    (subst (λ (all : List Entry). LedgerAt c.take_entry.new.ledger all (n + 1 - 1)) c.entry-entry.ensures.kept c.in_err-take_entry.ensures.err) in
    kept_by_index c.take_entry.new.ledger c.index_entry.new.index entries n (inr (more, ahead)) left

pub returns-in_err-take_entry-clause-stands : goal.returns-in_err-take_entry-clause-stands
returns-in_err-take_entry-clause-stands c =
    let entries = c.args.log.now.entries in
    let n = c.self.inside.applied in
    let e = c.entry-entry.result.now in
    let stood : StandsFor (record { applied = n; index = c.self.inside.index; changed = last_changes c.self.inside.ledger.store }) entries = subst (λ (h : AppliedLog). StandsFor h entries) (sym c.self.view_is) c.requires.stands in
    let minus : n + 1 - 1 ≡ n = omega arith in
    let is : slice_get entries n ≡ Some e = ap (λ (m : ℕ). slice_get entries m) (sym minus) ∙ c.entry-entry.ensures.entry in
    let more : n < length entries = omega (arith, c.requires.more, c.requires.within, ap (λ (h : AppliedLog). h.applied) c.self.view_is) in
    let place : n + 1 ≡ length (past entries n) + 1 = omega (arith, past_count entries n (omega (arith, more))) in
    let ahead : c.index_entry.new.index ≡ past entries (n + 1) = c.in_ok-index_entry.ensures.ok (past entries n) place (to_either c.self.inside.index entries n e is more stood.index) ∙ sym (past_next entries n e is) in
    record { within = stood.within; index = inr (more, ahead) }

pub invariant_of-self-2 : goal.invariant_of-self-2
invariant_of-self-2 c =
    let entries = c.args.log.now.entries in
    let n = c.self.inside.applied in
    let e = c.entry-entry.result.now in
    let stood : StandsFor (record { applied = n; index = c.self.inside.index; changed = last_changes c.self.inside.ledger.store }) entries = subst (λ (h : AppliedLog). StandsFor h entries) (sym c.self.view_is) c.requires.stands in
    let minus : n + 1 - 1 ≡ n = omega arith in
    let is : slice_get entries n ≡ Some e = ap (λ (m : ℕ). slice_get entries m) (sym minus) ∙ c.entry-entry.ensures.entry in
    let more : n < length entries = omega (arith, c.requires.more, c.requires.within, ap (λ (h : AppliedLog). h.applied) c.self.view_is) in
    let place : n + 1 ≡ length (past entries n) + 1 = omega (arith, past_count entries n (omega (arith, more))) in
    let ahead : c.index_entry.new.index ≡ past entries (n + 1) = c.in_ok-index_entry.ensures.ok (past entries n) place (to_either c.self.inside.index entries n e is more stood.index) ∙ sym (past_next entries n e is) in
    let taken : LedgerAt c.take_entry.new.ledger entries (n + 1) = subst (λ (all : List Entry). LedgerAt c.take_entry.new.ledger all (n + 1)) c.entry-entry.ensures.kept c.in_ok-take_entry.ensures.ok in
    kept_by_index c.take_entry.new.ledger c.index_entry.new.index entries (n + 1) (inl ahead) taken

pub returns-clause-stands : goal.returns-clause-stands
returns-clause-stands c =
    let entries = c.args.log.now.entries in
    let n = c.self.inside.applied in
    let e = c.entry-entry.result.now in
    let stood : StandsFor (record { applied = n; index = c.self.inside.index; changed = last_changes c.self.inside.ledger.store }) entries = subst (λ (h : AppliedLog). StandsFor h entries) (sym c.self.view_is) c.requires.stands in
    let minus : n + 1 - 1 ≡ n = omega arith in
    let is : slice_get entries n ≡ Some e = ap (λ (m : ℕ). slice_get entries m) (sym minus) ∙ c.entry-entry.ensures.entry in
    let more : n < length entries = omega (arith, c.requires.more, c.requires.within, ap (λ (h : AppliedLog). h.applied) c.self.view_is) in
    let place : n + 1 ≡ length (past entries n) + 1 = omega (arith, past_count entries n (omega (arith, more))) in
    let ahead : c.index_entry.new.index ≡ past entries (n + 1) = c.in_ok-index_entry.ensures.ok (past entries n) place (to_either c.self.inside.index entries n e is more stood.index) ∙ sym (past_next entries n e is) in
    record { within = omega (arith, more); index = inl ahead }

pub returns-in_err-index_entry-clause-same : goal.returns-in_err-index_entry-clause-same
returns-in_err-index_entry-clause-same c = λ same. ap (λ (h : AppliedLog). h.changed) c.self.view_is

pub returns-in_err-take_entry-clause-same : goal.returns-in_err-take_entry-clause-same
returns-in_err-take_entry-clause-same c = λ same.
    let end : c.self.inside.applied ≡ c.args.self.now.applied = ap (λ (h : AppliedLog). h.applied) c.self.view_is in
    ap last_changes (c.take_entry.ensures.same (gave_same c.args.log.now.entries _ c.self.inside.applied c.args.self.now.applied c.entry-entry.ensures.kept end same))
    ∙ ap (λ (h : AppliedLog). h.changed) c.self.view_is

pub returns-clause-same : goal.returns-clause-same
returns-clause-same c = λ same.
    let end : c.self.inside.applied ≡ c.args.self.now.applied = ap (λ (h : AppliedLog). h.applied) c.self.view_is in
    ap last_changes (c.take_entry.ensures.same (gave_same c.args.log.now.entries _ c.self.inside.applied c.args.self.now.applied c.entry-entry.ensures.kept end same))
    ∙ ap (λ (h : AppliedLog). h.changed) c.self.view_is
