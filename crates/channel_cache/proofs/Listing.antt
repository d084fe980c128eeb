-- the sequences of the documents of channels
use Rattle.std.proofs.Common.{◌≡◌, ◌<◌, ◌≤◌, ◌+◌, ℕ, refl, sym, ◌∙◌, ap, subst, arith, Bool, true, false, ◌&&◌, ◌||◌, if◌then◌else◌, List, [], ◌∷◌, ◌++◌, length, Option, Some, None, nat_eq}
use Rattle.std.specs.List.Sorted.{IsStrictlyIncreasing}
use Rattle.std.specs.Str.{bytes_eq}
use Rattle.std.specs.Cmp.Lexicographic.{bytes_decides}
use Rattle.std.proofs.lemmas.Bool.{eq-eqb, eqb-true, false≢true, true≢false}
use Rattle.std.proofs.lemmas.List.{append-nil}
use Rattle.std.proofs.lemmas.Option.{none-some}
use Rattle.sg_history.specs.declared.entries.Entry.{Entry}
use Rattle.sg_history.specs.declared.entries.Write.{Write}
use Rattle.sg_history.specs.History.{among, as_write}
use Rattle.sg_history.specs.Current.{Current, current}
use Rattle.log_index.specs.Marks.{write_of}
use Rattle.log_index.proofs.FirstRevisions.{at_newest, not_there, written_within}
use Rattle.channel_cache.specs.inner.Asking.{Asks}
use Rattle.channel_cache.specs.inner.Counting.{is_in_list, is_listed_by}
use Rattle.channel_cache.specs.Listed.{is_in, is_in_one, is_listed, listed_by, listed_from, listed_in, sequences_of}
use Rattle.channel_cache.specs.Sequences.{Lists}
use Rattle.channel_cache.specs.Stands.{has}
use Rattle.channel_cache.specs.declared.found.DocSeq.{DocSeq}
use Rattle.channel_cache.proofs.Having.{Rises, has_append, rises_more, rises_of, same_list}
use Rattle.channel_cache.proofs.Stepping.{write_other}

seqs_append : (xs ys : List DocSeq) → sequences_of (xs ++ ys) ≡ sequences_of xs ++ sequences_of ys
seqs_append [] ys = refl
seqs_append (x ∷ xs) ys = ap (λ (l : List ℕ). x.seq ∷ l) (seqs_append xs ys)

and_false : (b : Bool) → false ≡ (b && false)
and_false true = refl
and_false false = refl

and_true : (b : Bool) → (b || false) ≡ (b && true)
and_true true = refl
and_true false = refl

or_false : (b : Bool) → (b || false) ≡ b
or_false true = refl
or_false false = refl

-- what one entry adds
one_has : (es : List Entry) (channels : List (List ℕ)) (k s : ℕ) (o : Option Write) → has (sequences_of (listed_by es channels k o)) s ≡ (nat_eq s k && is_listed_by es channels k o)
one_has es channels k s None = and_false (nat_eq s k)
one_has es channels k s (Some w) = by (is_listed channels k (current es w.doc))
  where
    by : (b : Bool) → has (sequences_of (if b then record { doc = w.doc; seq = k } ∷ [] else [])) s ≡ (nat_eq s k && b)
    by true = and_true (nat_eq s k)
    by false = and_false (nat_eq s k)

pub has_listed : (es : List Entry) (channels : List (List ℕ)) (xs : List Entry) (s : ℕ) → has (sequences_of (listed_from es channels xs)) s ≡ is_listed_by es channels s (write_of xs s)
has_listed es channels [] s = refl
has_listed es channels (e ∷ older) s =
    ap (λ (l : List ℕ). has l s) (seqs_append (listed_from es channels older) (listed_by es channels (length older + 1) (as_write e)))
    ∙ has_append (sequences_of (listed_from es channels older)) (sequences_of (listed_by es channels (length older + 1) (as_write e))) s
    ∙ ap (λ (b : Bool). b || has (sequences_of (listed_by es channels (length older + 1) (as_write e))) s) (has_listed es channels older s)
    ∙ ap (λ (b : Bool). is_listed_by es channels s (write_of older s) || b) (one_has es channels (length older + 1) s (as_write e))
    ∙ by (nat_eq s (length older + 1)) refl
  where
    by : (b : Bool) → nat_eq s (length older + 1) ≡ b → (is_listed_by es channels s (write_of older s) || (b && is_listed_by es channels (length older + 1) (as_write e))) ≡ is_listed_by es channels s (write_of (e ∷ older) s)
    by true at =
        let here : s ≡ length older + 1 = eqb-true s (length older + 1) at in
        ap (λ (o : Option Write). is_listed_by es channels s o || is_listed_by es channels (length older + 1) (as_write e)) (not_there older s (omega (arith, here)))
        ∙ ap (λ (n : ℕ). is_listed_by es channels n (as_write e)) (sym here)
        ∙ ap (λ (o : Option Write). is_listed_by es channels s o) (sym (at_newest e older s here))
    by false at =
        or_false (is_listed_by es channels s (write_of older s))
        ∙ ap (λ (o : Option Write). is_listed_by es channels s o) (sym (write_other e older s (λ same. true≢false (sym (eq-eqb s (length older + 1) same) ∙ at))))

-- what is listed stands within the entries
pub listed_within : (es : List Entry) (channels : List (List ℕ)) (xs : List Entry) (s : ℕ) → is_listed_by es channels s (write_of xs s) ≡ true → s ≤ length xs
listed_within es channels xs s is = by (write_of xs s) refl is
  where
    by : (o : Option Write) → write_of xs s ≡ o → is_listed_by es channels s o ≡ true → s ≤ length xs
    by None none is = absurd (false≢true is)
    by (Some w) at is = written_within xs s w at

-- a write stands behind nothing
written_low : (es : List Entry) (s : ℕ) (w : Write) → write_of es s ≡ Some w → 0 < s
written_low [] s w at = absurd (none-some w at)
written_low (e ∷ older) s w at = by (nat_eq s (length older + 1)) refl at (λ h. written_low older s w h)
  where
    by : (b : Bool) → nat_eq s (length older + 1) ≡ b → (if b then as_write e else write_of older s) ≡ Some w → (write_of older s ≡ Some w → 0 < s) → 0 < s
    by true same at rest = omega (arith, eqb-true s (length older + 1) same)
    by false same at rest = rest at

pub listed_low : (es : List Entry) (channels : List (List ℕ)) (xs : List Entry) (s : ℕ) → is_listed_by es channels s (write_of xs s) ≡ true → 0 < s
listed_low es channels xs s is = by (write_of xs s) refl is
  where
    by : (o : Option Write) → write_of xs s ≡ o → is_listed_by es channels s o ≡ true → 0 < s
    by None none is = absurd (false≢true is)
    by (Some w) at is = written_low xs s w at

pub rises_listed : (es : List Entry) (channels : List (List ℕ)) (xs : List Entry) → Rises (sequences_of (listed_from es channels xs))
rises_listed es channels [] = tt
rises_listed es channels (e ∷ older) =
    subst (λ (l : List ℕ). Rises l) (sym (seqs_append (listed_from es channels older) (listed_by es channels (length older + 1) (as_write e)))) (by (as_write e) (rises_listed es channels older))
  where
    above : (n : ℕ) → has (sequences_of (listed_from es channels older)) n ≡ true → n < length older + 1
    above n is = omega (arith, listed_within es channels older n (sym (has_listed es channels older n) ∙ is))

    plain : Rises (sequences_of (listed_from es channels older)) → Rises (sequences_of (listed_from es channels older) ++ [])
    plain rises = subst (λ (l : List ℕ). Rises l) (sym (append-nil (sequences_of (listed_from es channels older)))) rises

    own : Rises (sequences_of (listed_from es channels older)) → (w : Write) (b : Bool)
        → Rises (sequences_of (listed_from es channels older) ++ sequences_of (if b then record { doc = w.doc; seq = length older + 1 } ∷ [] else []))
    own rises w true = rises_more (sequences_of (listed_from es channels older)) (length older + 1) rises above
    own rises w false = plain rises

    by : (o : Option Write) → Rises (sequences_of (listed_from es channels older)) → Rises (sequences_of (listed_from es channels older) ++ sequences_of (listed_by es channels (length older + 1) o))
    by None rises = plain rises
    by (Some w) rises = own rises w (is_listed channels (length older + 1) (current es w.doc))

-- numbers that rise and are those of the documents of channels are their sequences
pub are_sequences : (es : List Entry) (channels : List (List ℕ)) (found : List ℕ) → IsStrictlyIncreasing found → ((s : ℕ) → has found s ≡ is_in_list es channels s) → found ≡ sequences_of (listed_in es channels)
are_sequences es channels found rises same = same_list found (sequences_of (listed_in es channels)) (rises_of found rises) (rises_listed es channels es) (λ s. same s ∙ sym (has_listed es channels es s))

-- in one of several channels, and in that one
pub record InOne (es : List Entry) (channels : List (List ℕ)) (seq : ℕ) : Type 0 where
  pub channel : List ℕ
  pub is_one : among channels channel ≡ true
  pub listed : is_in_list es (channel ∷ []) seq ≡ true

some_of : (c : Current) (channels : List (List ℕ)) → is_in_one channels c ≡ true → (channel : List ℕ) × (among channels channel ≡ true) × (is_in channel c ≡ true)
some_of c [] is = absurd (false≢true is)
some_of c (x ∷ xs) is = by (is_in x c) refl is (λ h. some_of c xs h)
  where
    any : (b : Bool) → (b || true) ≡ true
    any true = refl
    any false = refl

    by : (b : Bool) → is_in x c ≡ b → (b || is_in_one xs c) ≡ true → (is_in_one xs c ≡ true → (channel : List ℕ) × (among xs channel ≡ true) × (is_in channel c ≡ true))
        → (channel : List ℕ) × (among (x ∷ xs) channel ≡ true) × (is_in channel c ≡ true)
    by true here is rest = (x, ap (λ (b : Bool). b || among xs x) ((bytes_decides x x).1 refl), here)
    by false here is rest = let one = rest is in (one.0, ap (λ (b : Bool). bytes_eq x one.0 || b) one.1 ∙ any (bytes_eq x one.0), one.2)

both : (a b : Bool) → (a && b) ≡ true → (a ≡ true) × (b ≡ true)
both true b h = (refl, h)
both false b h = absurd (false≢true h)

pub in_one : (es : List Entry) (channels : List (List ℕ)) (seq : ℕ) → is_in_list es channels seq ≡ true → InOne es channels seq
in_one es channels seq is = by (write_of es seq) refl is
  where
    here : (w : Write) (o : Option Current) → write_of es seq ≡ Some w → current es w.doc ≡ o → is_listed channels seq o ≡ true → InOne es channels seq
    here w None at now is = absurd (false≢true is)
    here w (Some c) at now is =
        let two = both (nat_eq c.seq seq) (is_in_one channels c) is in
        let one = some_of c channels two.1 in
        record {
          channel = one.0;
          is_one = one.1;
          listed =
              ap (λ (o : Option Write). is_listed_by es (one.0 ∷ []) seq o) at
              ∙ ap (λ (o : Option Current). is_listed (one.0 ∷ []) seq o) now
              ∙ ap (λ (b : Bool). b && (is_in one.0 c || false)) two.0
              ∙ ap (λ (b : Bool). b || false) one.2;
        }

    by : (o : Option Write) → write_of es seq ≡ o → is_listed_by es channels seq o ≡ true → InOne es channels seq
    by None none is = absurd (false≢true is)
    by (Some w) at is = here w (current es w.doc) at refl is

-- what was found, once nothing is wanted
pub found_all : (es : List Entry) (lists : Lists) (found : List ℕ) (channels : List (List ℕ)) → Asks es lists [] found channels → (s : ℕ) → has found s ≡ is_in_list es channels s
found_all es lists found channels asks s = by (has found s) (is_in_list es channels s) refl refl
  where
    by : (a b : Bool) → has found s ≡ a → is_in_list es channels s ≡ b → a ≡ b
    by true b is other = sym (asks.of s is) ∙ other
    by false false is other = refl
    by false true is other =
        let one = in_one es channels s other in
        sym is ∙ asks.all one.channel s one.is_one refl one.listed
