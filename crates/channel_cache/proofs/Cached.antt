-- lists with an index of their own
use Rattle.std.proofs.Common.{◌≡◌, ◌<◌, ◌≤◌, ◌+◌, ◌-◌, ℕ, zero, suc, refl, sym, ◌∙◌, ap, subst, arith, Bool, true, false, if◌then◌else◌, List, [], ◌∷◌, ◌++◌, length, Option, Some, None, append_assoc}
use Rattle.std.specs.Prelude.{slice_get}
use Rattle.std.proofs.lemmas.List.{append-nil}
use Rattle.sg_history.specs.declared.entries.Entry.{Entry}
use Rattle.sg_history.specs.declared.entries.Write.{Write}
use Rattle.sg_history.specs.History.{as_write, past}
use Rattle.sg_history.specs.Current.{current}
use Rattle.log_index.specs.Marks.{write_of}
use Rattle.channel_cache.specs.inner.Counting.{is_listed_by}
use Rattle.channel_cache.specs.inner.DocumentsRead.{document_by, document_read, documents_read}
use Rattle.channel_cache.specs.Listed.{is_listed, listed_by, listed_from, listed_in, sequences_of}
use Rattle.channel_cache.specs.Stands.{has}
use Rattle.channel_cache.specs.declared.found.DocSeq.{DocSeq}
use Rattle.channel_cache.proofs.Listing.{has_listed, listed_low, listed_within}
use Rattle.channel_cache.proofs.Past.{got, past_count, past_next}

-- the entries that are read again are those that were listed
read_more : (entries : List Entry) (xs ys : List ℕ) → documents_read entries (xs ++ ys) ≡ documents_read entries xs ++ documents_read entries ys
read_more entries [] ys = refl
read_more entries (x ∷ xs) ys =
    ap (λ (l : List DocSeq). document_read (slice_get entries (x - 1)) x ++ l) (read_more entries xs ys)
    ∙ sym (append_assoc (document_read (slice_get entries (x - 1)) x) (documents_read entries xs) (documents_read entries ys))

seqs_append : (xs ys : List DocSeq) → sequences_of (xs ++ ys) ≡ sequences_of xs ++ sequences_of ys
seqs_append [] ys = refl
seqs_append (x ∷ xs) ys = ap (λ (l : List ℕ). x.seq ∷ l) (seqs_append xs ys)

one_read : (entries : List Entry) (es : List Entry) (channels : List (List ℕ)) (k : ℕ) (e : Entry) → slice_get entries k ≡ Some e → (o : Option Write) → as_write e ≡ o
    → documents_read entries (sequences_of (listed_by es channels (k + 1) o)) ≡ listed_by es channels (k + 1) o
one_read entries es channels k e at None is = refl
one_read entries es channels k e at (Some w) is = by (is_listed channels (k + 1) (current es w.doc))
  where
    here : document_read (slice_get entries (k + 1 - 1)) (k + 1) ≡ record { doc = w.doc; seq = k + 1 } ∷ []
    here =
        let minus : k + 1 - 1 ≡ k = omega arith in
        ap (λ (n : ℕ). document_read (slice_get entries n) (k + 1)) minus
        ∙ ap (λ (o : Option Entry). document_read o (k + 1)) at
        ∙ ap (λ (o : Option Write). document_by o (k + 1)) is

    by : (b : Bool) → documents_read entries (sequences_of (if b then record { doc = w.doc; seq = k + 1 } ∷ [] else [])) ≡ (if b then record { doc = w.doc; seq = k + 1 } ∷ [] else [])
    by true = append-nil (document_read (slice_get entries (k + 1 - 1)) (k + 1)) ∙ here
    by false = refl

pub read_listed : (entries es : List Entry) (channels : List (List ℕ)) (n : ℕ) → n ≤ length entries → documents_read entries (sequences_of (listed_from es channels (past entries n))) ≡ listed_from es channels (past entries n)
read_listed entries es channels zero high = refl
read_listed entries es channels (suc n) high =
    let one = got entries n (omega (arith, high)) in
    let low : n ≤ length entries = omega (arith, high) in
    let count : length (past entries n) ≡ n = past_count entries n low in
    let newest = past_next entries n one.0 one.1 in
    subst (λ (l : List Entry). documents_read entries (sequences_of (listed_from es channels l)) ≡ listed_from es channels l) (sym newest)
    (ap (documents_read entries) (seqs_append (listed_from es channels (past entries n)) (listed_by es channels (length (past entries n) + 1) (as_write one.0)))
    ∙ read_more entries (sequences_of (listed_from es channels (past entries n))) (sequences_of (listed_by es channels (length (past entries n) + 1) (as_write one.0)))
    ∙ ap (λ (l : List DocSeq). l ++ documents_read entries (sequences_of (listed_by es channels (length (past entries n) + 1) (as_write one.0)))) (read_listed entries es channels n low)
    ∙ ap (λ (l : List DocSeq). listed_from es channels (past entries n) ++ l)
    (subst (λ (m : ℕ). documents_read entries (sequences_of (listed_by es channels (m + 1) (as_write one.0))) ≡ listed_by es channels (m + 1) (as_write one.0)) (sym count)
    (one_read entries es channels n one.0 one.1 (as_write one.0) refl)))

-- the sequences of what is listed stand in the log
pub listed_stands : (entries : List Entry) (channels : List (List ℕ)) (to : ℕ) → to ≤ length entries → (s : ℕ) → has (sequences_of (listed_in (past entries to) channels)) s ≡ true → (0 < s) × (s ≤ length entries)
listed_stands entries channels to high s is =
    let es = past entries to in
    let by : is_listed_by es channels s (write_of es s) ≡ true = sym (has_listed es channels es s) ∙ is in (
      listed_low es channels es s by,
      omega (arith, listed_within es channels es s by, past_count entries to high, high),
    )

-- and are those of what is listed
pub listed_again : (entries : List Entry) (channels : List (List ℕ)) (to : ℕ) → to ≤ length entries → (found : List ℕ) → found ≡ sequences_of (listed_in (past entries to) channels)
    → documents_read entries found ≡ listed_in (past entries to) channels
listed_again entries channels to high found is =
    ap (documents_read entries) is ∙ read_listed entries (past entries to) channels to high
