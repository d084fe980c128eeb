use Rattle.std.proofs.Common.{◌≡◌, ◌∙◌, ap, sym, subst, arith, refl, true, false, not, ℕ, Bool, List, length, if◌then◌else◌, Result, Ok, Err}
use Rattle.std.specs.Prelude.{nat_le, IfOk, OnOk}
use Rattle.std.proofs.lemmas.Bool.{leb-false, leb-true, false≢true, true≢false}
use Rattle.std.proofs.lemmas.Result.{IfOk-weaker}
use Rattle.sg_history.specs.declared.entries.Entry.{Entry}
use Rattle.sg_history.specs.History.{past}
use Rattle.channel_cache.specs.Asked.{asked_after_all, refills_of}
use Rattle.channel_cache.specs.inner.Asking.{names_of}
use Rattle.channel_cache.specs.inner.Counting.{AreLists}
use Rattle.channel_cache.specs.Listed.{listed_in, sequences_of}
use Rattle.channel_cache.specs.Reads.{filling}
use Rattle.channel_cache.specs.Stands.{IndexesTo}
use Rattle.channel_cache.proofs.Changing.{on_ok}
use Rattle.channel_cache.proofs.Names.{same_names}
use Rattle.channel_cache.proofs.asking.ask_from.Goals as goal

-- what holds on success, where it holds
any_ok : {A E : Type 0} (r : Result A E) (P : Type 0) → P → OnOk r P
any_ok (Ok x) P p = p
any_ok (Err e) P p = tt

is_true : (b : Bool) → not b ≡ false → b ≡ true
is_true true h = refl
is_true false h = absurd (true≢false h)

is_false : (b : Bool) → not b ≡ true → b ≡ false
is_false false h = refl
is_false true h = absurd (false≢true h)

pub ask-requires-clause-index : goal.ask-requires-clause-index
ask-requires-clause-index c = subst (λ (l : List Entry). IndexesTo c.args.index.now l c.args.to) (sym c.bring_any.ensures.log) c.requires.index

pub ask-requires-clause-lists : goal.ask-requires-clause-lists
ask-requires-clause-lists c =
    subst (λ (l : List Entry). AreLists (past l c.args.to) c.bring_any.new.lists.entries) (sym c.bring_any.ensures.log) (c.in_ok-bring_any.ensures.ok.lists c.requires.lists)

pub bring_any-requires-clause-order : goal.bring_any-requires-clause-order
bring_any-requires-clause-order c = leb-true c.args.place c.args.to (is_true (nat_le c.args.place c.args.to) (sym c.is_passed.ensures ∙ c.if-is_passed.false))

pub returns-then-is_passed-clause-refills : goal.returns-then-is_passed-clause-refills
returns-then-is_passed-clause-refills c =
    let at : nat_le c.args.place c.args.to ≡ false = is_false (nat_le c.args.place c.args.to) (sym c.is_passed.ensures ∙ c.if-is_passed.true) in
    IfOk-weaker c.ask_behind.result _ _ (λ found is. is ∙ sym (ap (λ (b : Bool). if b then refills_of c.args.lists.now.cap c.args.channels.now (names_of c.args.lists.now.entries) else length c.args.channels.now) at)) c.ask_behind.ensures.refills

pub returns-then-is_passed-clause-names : goal.returns-then-is_passed-clause-names
returns-then-is_passed-clause-names c =
    let below = leb-false c.args.place c.args.to (is_false (nat_le c.args.place c.args.to) (sym c.is_passed.ensures ∙ c.if-is_passed.true)) in
    any_ok c.ask_behind.result _ (λ ahead. absurd (omega (arith, ahead, below)))

pub returns-then-is_passed-clause-lists : goal.returns-then-is_passed-clause-lists
returns-then-is_passed-clause-lists c =
    let below = leb-false c.args.place c.args.to (is_false (nat_le c.args.place c.args.to) (sym c.is_passed.ensures ∙ c.if-is_passed.true)) in
    any_ok c.ask_behind.result _ (λ ahead. absurd (omega (arith, ahead, below)))

pub returns-then-is_passed-clause-reads : goal.returns-then-is_passed-clause-reads
returns-then-is_passed-clause-reads c =
    let at : nat_le c.args.place c.args.to ≡ false = is_false (nat_le c.args.place c.args.to) (sym c.is_passed.ensures ∙ c.if-is_passed.true) in
    omega (
      arith,
      c.ask_behind.ensures.reads,
      ap (λ (b : Bool). filling (if b then refills_of c.args.lists.now.cap c.args.channels.now (names_of c.args.lists.now.entries) else length c.args.channels.now) c.args.to) at,
    )

pub returns-clause-sequences : goal.returns-clause-sequences
returns-clause-sequences c = subst (λ (l : List Entry). IfOk c.ask.result (λ found. found.sequences.items ≡ sequences_of (listed_in (past l c.args.to) c.args.channels.now))) c.bring_any.ensures.log c.ask.ensures.sequences

pub returns-clause-refills : goal.returns-clause-refills
returns-clause-refills c =
    let at : nat_le c.args.place c.args.to ≡ true = is_true (nat_le c.args.place c.args.to) (sym c.is_passed.ensures ∙ c.if-is_passed.false) in
    let names = same_names c.args.lists.now.entries c.bring_any.new.lists.entries c.in_ok-bring_any.ensures.ok.keys in
    IfOk-weaker c.ask.result _ _ (λ found is. is
    ∙ ap (λ (n : ℕ). refills_of n c.args.channels.now (names_of c.bring_any.new.lists.entries)) c.bring_any.ensures.cap
    ∙ ap (refills_of c.args.lists.now.cap c.args.channels.now) names
    ∙ sym (ap (λ (b : Bool). if b then refills_of c.args.lists.now.cap c.args.channels.now (names_of c.args.lists.now.entries) else length c.args.channels.now) at)) c.ask.ensures.refills

pub returns-clause-names : goal.returns-clause-names
returns-clause-names c =
    let names = same_names c.args.lists.now.entries c.bring_any.new.lists.entries c.in_ok-bring_any.ensures.ok.keys in
    on_ok c.ask.result _ _ (λ is ahead. is
    ∙ ap (λ (n : ℕ). asked_after_all n c.args.channels.now (names_of c.bring_any.new.lists.entries)) c.bring_any.ensures.cap
    ∙ ap (asked_after_all c.args.lists.now.cap c.args.channels.now) names) c.ask.ensures.names

pub returns-clause-lists : goal.returns-clause-lists
returns-clause-lists c = on_ok c.ask.result _ _ (λ are ahead. subst (λ (l : List Entry). AreLists (past l c.args.to) c.ask.new.lists.entries) c.bring_any.ensures.log are) c.ask.ensures.lists

pub returns-clause-behind : goal.returns-clause-behind
returns-clause-behind c =
    let ahead = leb-true c.args.place c.args.to (is_true (nat_le c.args.place c.args.to) (sym c.is_passed.ensures ∙ c.if-is_passed.false)) in
    any_ok c.ask.result _ (λ below. absurd (omega (arith, ahead, below)))

pub returns-clause-reads : goal.returns-clause-reads
returns-clause-reads c =
    let at : nat_le c.args.place c.args.to ≡ true = is_true (nat_le c.args.place c.args.to) (sym c.is_passed.ensures ∙ c.if-is_passed.false) in
    let names = same_names c.args.lists.now.entries c.bring_any.new.lists.entries c.in_ok-bring_any.ensures.ok.keys in
    let refills : filling (refills_of c.bring_any.new.lists.cap c.args.channels.now (names_of c.bring_any.new.lists.entries)) c.args.to
    ≡ filling (if nat_le c.args.place c.args.to then refills_of c.args.lists.now.cap c.args.channels.now (names_of c.args.lists.now.entries) else length c.args.channels.now) c.args.to =
    ap (λ (n : ℕ). filling (refills_of n c.args.channels.now (names_of c.bring_any.new.lists.entries)) c.args.to) c.bring_any.ensures.cap
    ∙ ap (λ (l : List (List ℕ)). filling (refills_of c.args.lists.now.cap c.args.channels.now l) c.args.to) names
    ∙ sym (ap (λ (b : Bool). filling (if b then refills_of c.args.lists.now.cap c.args.channels.now (names_of c.args.lists.now.entries) else length c.args.channels.now) c.args.to) at) in
    omega (arith, refills, c.ask.ensures.reads, c.bring_any.ensures.reads)
