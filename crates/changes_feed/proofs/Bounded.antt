-- how often a look reads the log
use Rattle.std.proofs.Common.{◌≡◌, ◌⊎◌, inl, inr, ◌<◌, ◌≤◌, ◌+◌, ◌-◌, ◌*◌, ℕ, zero, suc, refl, ◌∙◌, ap, arith, List, [], ◌∷◌, length, drop, take, min}
use Rattle.std.specs.Prelude.{sum_by}
use Rattle.std.proofs.lemmas.Bool.{cases_lt}
use Rattle.sg_history.specs.declared.entries.Entry.{Entry}
use Rattle.sg_history.specs.History.{as_sync, past}
use Rattle.sg_history.specs.CountedLog.{count_marks, marks_between}
use Rattle.channel_cache.specs.Kept.{KeptLists, refills_at}
use Rattle.channel_cache.specs.Listed.{listed_in, sequences_of}
use Rattle.channel_cache.specs.Reads.{ask_reads, filling, passed}
use Rattle.channel_cache.specs.declared.found.DocSeq.{DocSeq}
use Rattle.channel_cache.proofs.Passed.{marks_then}
use Rattle.changes_feed.specs.FeedReads.{advance_reads, look_reads}

filling_most : (refills to : ℕ) → filling refills to ≤ to * refills
filling_most zero to = omega arith
filling_most (suc more) to = omega arith

count_sequences : (documents : List DocSeq) → length (sequences_of documents) ≡ length documents
count_sequences [] = refl
count_sequences (d ∷ documents) = ap (λ (n : ℕ). suc n) (count_sequences documents)

-- from an earlier place as many pass, or more
passed_more : (entries : List Entry) (early late to : ℕ) → early ≤ late → passed entries late to ≤ passed entries early to
passed_more entries early late to low = by (cases_lt to late)
  where
    none : to < late → marks_between entries late to ≡ 0
    none past =
        let nothing : to - late ≡ 0 = omega (arith, past) in
        ap (λ (n : ℕ). sum_by (λ e. count_marks (as_sync e)) (take n (drop late entries))) nothing

    by : (to < late) ⊎ (late ≤ to) → passed entries late to ≤ passed entries early to
    by (inl past) = omega (arith, low, past, none past)
    by (inr within) = omega (arith, low, within, marks_then entries early late to low within)

module _ (lists : KeptLists) (entries : List Entry) (channels : List (List ℕ)) (start front : ℕ) where
  -- what was asked alone
  pub ask_bound : (old new : ℕ) → new ≤ old + ask_reads lists entries channels front → new ≤ old + look_reads lists entries channels start front
  ask_bound old new le = omega (arith, le, filling_most (refills_at lists channels front) front)

  -- and with the segment, and the documents of what was found
  pub look_bound : (old mid new : ℕ) (found : List ℕ) → found ≡ sequences_of (listed_in (past entries front) channels) → mid ≤ old + ask_reads lists entries channels front
      → new ≤ mid + (4 * passed entries (start - 1) front + 2 * length found) → new ≤ old + look_reads lists entries channels start front
  look_bound old mid new found is le more =
      let count : length found ≡ length (listed_in (past entries front) channels) = ap length is ∙ count_sequences (listed_in (past entries front) channels) in
      omega (arith, le, more, count, filling_most (refills_at lists channels front) front)

  -- with a history that is brought up to the front before
  pub advance_bound : (old mid new applied : ℕ) → mid ≤ old + 2 * (front - applied) → new ≤ mid + look_reads lists entries channels start front → new ≤ old + advance_reads lists applied entries channels start front
  advance_bound old mid new applied le more =
      let low : min lists.place applied ≤ lists.place = omega arith in
      let far : front - applied ≤ front - min lists.place applied = omega arith in
      omega (arith, le, more, far, passed_more entries (min lists.place applied) lists.place front low)

  pub apply_bound : (old new applied : ℕ) → new ≤ old + 2 * (front - applied) → new ≤ old + advance_reads lists applied entries channels start front
  apply_bound old new applied le =
      let far : front - applied ≤ front - min lists.place applied = omega arith in
      omega (arith, le, far)
