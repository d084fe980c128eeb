-- the rules of writes and of marks, and the revisions that were written
use Rattle.std.proofs.Common.{◌≡◌, ◌≢◌, ℕ, suc, ◌+◌, ◌*◌, ◌<◌, ◌≤◌, Bool, true, false, ◌&&◌, ◌||◌, not, List, [], ◌∷◌, length, drop, drop-cons, get_or, refl, sym, ap, ◌∙◌, arith, if◌then◌else◌, Option, Some, None}
use Rattle.std.specs.Prelude.{is_some, nat_lt}
use Rattle.std.specs.List.{list_all}
use Rattle.std.proofs.lemmas.List.{drop_all}
use Rattle.sg_names.specs.ItemList.{rises}
use Rattle.sg_names.specs.declared.rev_id.RevId.{RevId}
use Rattle.sg_names.specs.RevId.{same_rev}
use Rattle.sg_history.specs.declared.entries.Entry.{Entry}
use Rattle.sg_history.specs.declared.entries.Entry.TheVariants as entry
use Rattle.sg_history.specs.declared.entries.Mark.{Mark}
use Rattle.sg_history.specs.declared.entries.Write.{Write}
use Rattle.sg_history.specs.declared.fault.Why.{Why}
use Rattle.sg_history.specs.Current.{Sequenced}
use Rattle.sg_history.specs.History.{SyncEntry, as_sync, as_write}
use Rattle.sg_history.specs.Journal.{IsNext, falls_from, has_rev, line_of, mark_cmp, may_follow, may_follow_by}
use Rattle.sg_history.specs.Line.{IsLine}
use Rattle.sg_history.specs.Rules.{as_fault, broken_mark, fault_by, is_above_last, rule_fault}
use Rattle.sg_history.proofs.OneLine.{line_same}

chosen : (same right : Bool) (w : Sequenced) (other : Option Sequenced) → is_some (if same then (if right then Some w else other) else other) ≡ ((same && right) || is_some other)
chosen true true w other = refl
chosen true false w other = refl
chosen false right w other = refl

-- an entry that is no write
unwritten : (older : List Entry) (e : Entry) (doc : List ℕ) (rev : RevId) → as_write e ≡ None → has_rev older doc rev ≡ has_rev (e ∷ older) doc rev
unwritten older (entry.Write w) doc rev none = absurd (cc (none))
unwritten older (entry.PutUser name channels roles) doc rev none = refl
unwritten older (entry.PutRole name channels) doc rev none = refl
unwritten older (entry.DropUser name) doc rev none = refl
unwritten older (entry.DropRole name) doc rev none = refl
unwritten older (entry.Sync text marks) doc rev none = refl
unwritten older entry.Unused doc rev none = refl

no_rule : (a b c d : Bool) → as_fault (if a then Some 3 else if not b then Some 4 else if not c then Some 8 else if not d then Some 9 else None) ≡ None
    → (not a && b && c && d) ≡ true
no_rule true b c d e = absurd (cc (e))
no_rule false false c d e = absurd (cc (e))
no_rule false true false d e = absurd (cc (e))
no_rule false true true false e = absurd (cc (e))
no_rule false true true true e = refl

some_rule : (a b c d : Bool) (why : Why)
    → as_fault (if a then Some 3 else if not b then Some 4 else if not c then Some 8 else if not d then Some 9 else None) ≡ Some why
    → ¬ ((not a && b && c && d) ≡ true)
some_rule true b c d why e f = cc (f)
some_rule false false c d why e f = cc (f)
some_rule false true false d why e f = cc (f)
some_rule false true true false why e f = cc (f)
some_rule false true true true why e f = cc (e)

-- marks rise from the one before them on
abbrev rise_from : Option Mark → List Mark → Bool
rise_from None marks = rises mark_cmp marks
rise_from (Some before) marks = rises mark_cmp (before ∷ marks)

rise_next : (before : Option Mark) (mark : Mark) (marks : List Mark) → rise_from before (mark ∷ marks) ≡ (is_above_last before mark && rise_from (Some mark) marks)
rise_next None mark marks = refl
rise_next (Some before) mark marks = refl

rise_end : (before : Option Mark) → rise_from before [] ≡ true
rise_end None = refl
rise_end (Some before) = refl

abbrev is_written : List Entry → Mark → Bool
is_written older mark = has_rev older mark.doc mark.rev

kept_in : (a b c d : Bool) → ((a && b) && (c && d)) ≡ ((a && c) && (b && d))
kept_in true true c d = refl
kept_in true false true d = refl
kept_in true false false d = refl
kept_in false b c d = refl

abbrev no_fault : Option ℕ → Bool
no_fault None = true
no_fault (Some field) = false

-- no mark is broken exactly where all rise and are of revisions that were written
marks_are : (older : List Entry) (field : ℕ) (before : Option Mark) (marks : List Mark)
    → (rise_from before marks && list_all (is_written older) marks) ≡ no_fault (broken_mark older field before marks)
marks_are older field before [] = ap (λ (b : Bool). b && true) (rise_end before)
marks_are older field before (mark ∷ marks) =
    ap (λ (b : Bool). b && (is_written older mark && list_all (is_written older) marks)) (rise_next before mark marks)
    ∙ kept_in (is_above_last before mark) (rise_from (Some mark) marks) (is_written older mark) (list_all (is_written older) marks)
    ∙ go (is_above_last before mark && is_written older mark) (marks_are older (field + 5) (Some mark) marks)
  where
    go : (good : Bool) → (rise_from (Some mark) marks && list_all (is_written older) marks) ≡ no_fault (broken_mark older (field + 5) (Some mark) marks)
        → (good && (rise_from (Some mark) marks && list_all (is_written older) marks))
        ≡ no_fault (if good then broken_mark older (field + 5) (Some mark) marks else Some field)
    go true again = again
    go false again = refl

no_mark : (r : Option ℕ) → as_fault r ≡ None → no_fault r ≡ true
no_mark None e = refl
no_mark (Some field) e = absurd (cc (e))

some_mark : (r : Option ℕ) (why : Why) → as_fault r ≡ Some why → ¬ (no_fault r ≡ true)
some_mark None why e f = cc (e)
some_mark (Some field) why e f = cc (f)

follows : (older : List Entry) (o : Option Write) (s : Option SyncEntry) → fault_by older o s ≡ None → may_follow_by older o s ≡ true
follows older (Some w) s e =
    no_rule (has_rev older w.doc w.rev) (falls_from w.rev.generation w.ancestors) (nat_lt w.at (length older + 1))
    (same_rev w.winner w.rev || has_rev older w.doc w.winner) e
follows older None (Some sync) e = marks_are older 3 None sync.marks ∙ no_mark (broken_mark older 3 None sync.marks) e
follows older None None e = refl

breaks : (older : List Entry) (o : Option Write) (s : Option SyncEntry) (why : Why) → fault_by older o s ≡ Some why → ¬ (may_follow_by older o s ≡ true)
breaks older (Some w) s why e f =
    some_rule (has_rev older w.doc w.rev) (falls_from w.rev.generation w.ancestors) (nat_lt w.at (length older + 1))
    (same_rev w.winner w.rev || has_rev older w.doc w.winner) why e f
breaks older None (Some sync) why e f = some_mark (broken_mark older 3 None sync.marks) why e (sym (marks_are older 3 None sync.marks) ∙ f)
breaks older None None why e f = cc (e)

-- a line of an entry that breaks no rule
pub next_is : (older : List Entry) (line : List ℕ) (e : Entry) → IsLine line e → rule_fault older e ≡ None → IsNext older e × (line ≡ line_of e)
next_is older line e is none = (record { grammar = is.0; rules = follows older (as_write e) (as_sync e) none }, is.1)

-- a line of an entry that breaks a rule is no line that may be the next
pub broken_next : (older : List Entry) (line : List ℕ) (e : Entry) (why : Why) → IsLine line e → rule_fault older e ≡ Some why → (f : Entry) → IsNext older f
    → line ≢ line_of f
broken_next older line e why is broken f next spelled =
    let same : e ≡ f = line_same e f is.0 next.grammar (sym is.1 ∙ spelled) in
    breaks older (as_write e) (as_sync e) why broken (ap (may_follow older) same ∙ next.rules)

-- a line breaks one rule at most
pub rule_one : (older : List Entry) (line : List ℕ) (e f : Entry) → IsLine line e → IsLine line f → rule_fault older e ≡ rule_fault older f
rule_one older line e f x y = ap (rule_fault older) (line_same e f x.0 y.0 (sym x.1 ∙ y.1))

cut_at : (marks : List Mark) (i : ℕ) (mark : Mark) → i < length marks → mark ≡ get_or marks i mark → drop i marks ≡ mark ∷ drop (i + 1) marks
cut_at marks i mark inside is =
    let next : suc i ≡ i + 1 = omega arith in
    drop-cons marks i mark inside ∙ (λ k. sym is k ∷ drop (next k) marks)

-- a mark that is right is passed over
pub mark_next : (older : List Entry) (marks : List Mark) (i : ℕ) (before : Option Mark) (mark : Mark) → i < length marks → mark ≡ get_or marks i mark
    → (is_above_last before mark && has_rev older mark.doc mark.rev) ≡ true
    → broken_mark older (5 * i + 3) before (drop i marks) ≡ broken_mark older (5 * (i + 1) + 3) (Some mark) (drop (i + 1) marks)
mark_next older marks i before mark inside is right =
    let field : 5 * i + 3 + 5 ≡ 5 * (i + 1) + 3 = omega arith in
    ap (broken_mark older (5 * i + 3) before) (cut_at marks i mark inside is)
    ∙ ap (λ (b : Bool). if b then broken_mark older (5 * i + 3 + 5) (Some mark) (drop (i + 1) marks) else Some (5 * i + 3)) right
    ∙ ap (λ (n : ℕ). broken_mark older n (Some mark) (drop (i + 1) marks)) field

-- a mark that is not is the first
pub mark_here : (older : List Entry) (marks : List Mark) (i : ℕ) (before : Option Mark) (mark : Mark) → i < length marks → mark ≡ get_or marks i mark
    → (is_above_last before mark && has_rev older mark.doc mark.rev) ≡ false → broken_mark older (5 * i + 3) before (drop i marks) ≡ Some (5 * i + 3)
mark_here older marks i before mark inside is wrong =
    ap (broken_mark older (5 * i + 3) before) (cut_at marks i mark inside is)
    ∙ ap (λ (b : Bool). if b then broken_mark older (5 * i + 3 + 5) (Some mark) (drop (i + 1) marks) else Some (5 * i + 3)) wrong

-- no mark is left
pub mark_none : (older : List Entry) (marks : List Mark) (i : ℕ) (before : Option Mark) → length marks ≤ i → broken_mark older (5 * i + 3) before (drop i marks) ≡ None
mark_none older marks i before all = ap (broken_mark older (5 * i + 3) before) (drop_all i marks all)
