-- lines that are read one after another
use Rattle.std.proofs.Common.{◌≡◌, ◌≢◌, ℕ, ◌+◌, ◌<◌, ◌≤◌, Bool, true, false, MatchBool, List, [], ◌∷◌, ◌++◌, length, drop, reverse, refl, sym, ap, ◌∙◌, subst, arith, inl, inr}
use Rattle.std.specs.Prelude.{Result, Ok, Err, IsTrue, IfOk, IfErr}
use Rattle.std.proofs.lemmas.Bool.{false≢true}
use Rattle.std.proofs.lemmas.List.{append-nil, drop-drop, drop_all}
use Rattle.std.proofs.Math.Seq.{drop-append_seam}
use Rattle.sg_history.specs.declared.fault.BadLine.{BadLine}
use Rattle.sg_history.specs.declared.fault.LineFault.{LineFault}
use Rattle.sg_history.specs.declared.fault.LineFault.TheVariants as one
use Rattle.sg_history.specs.declared.fault.ReadLog.{ReadLog}
use Rattle.sg_history.specs.declared.fault.ReadLog.TheVariants as file
use Rattle.sg_history.specs.declared.fault.Why.{Why}
use Rattle.sg_history.specs.declared.fault.Why.TheVariants as reason
use Rattle.sg_history.specs.BadLine.{NamesLine, refusal_at}
use Rattle.sg_history.specs.Faults.{HasReason}
use Rattle.sg_history.specs.Files.{LineGrammar, AreSaid, Begins, Stops, IsBadBehind, IsBadFile, IsFileOf, AreAmong, IsBadAmong, IsTitleFault}
use Rattle.sg_history.specs.Pieces.{pieces}
use Rattle.sg_history.specs.inner.Reading.{EndsAs, FailsIn, Reaches, StopsBehind}
use Rattle.sg_history.proofs.FileLaws.{reversed}
use Rattle.sg_history.proofs.PieceLemmas.{pieces-some}

module _ {X : Type 0} (g : LineGrammar X) where
  -- one line more
  begins_more : (older : List X) (lines : List (List ℕ)) (items : List X) (line next : List ℕ) (more : List (List ℕ)) (x : X)
      → Begins g older lines items (line ∷ next ∷ more) → g.Says (reverse items ++ older) line x → Begins g older lines (items ++ x ∷ []) (next ∷ more)
  begins_more older lines [] line next more x begun says =
      subst (λ ls. Begins g older ls (x ∷ []) (next ∷ more)) (sym begun) (says, refl)
  begins_more older [] (p ∷ items) line next more x begun says = absurd begun
  begins_more older (end ∷ []) (p ∷ items) line next more x begun says = absurd begun
  begins_more older (first ∷ second ∷ others) (p ∷ items) line next more x begun says =
      (begun.0, begins_more (p ∷ older) (second ∷ others) items line next more x begun.1 (subst (λ o. g.Says o line x) (sym (reversed p items older)) says))

  -- a line in front
  pub begins_first : (older : List X) (line : List ℕ) (after : List (List ℕ)) (x : X) (xs : List X) (left : List (List ℕ)) → 0 < length after
      → g.Says older line x → Begins g (x ∷ older) after xs left → Begins g older (line ∷ after) (x ∷ xs) left
  begins_first older line [] x xs left some says begun = absurd (omega (arith, some))
  begins_first older line (next ∷ more) x xs left some says begun = (says, begun)

  begins_next : (lines : List (List ℕ)) (items : List X) (line : List ℕ) (after : List (List ℕ)) (x : X) → 0 < length after
      → Begins g [] lines items (line ∷ after) → g.Says (reverse items) line x → Begins g [] lines (items ++ x ∷ []) after
  begins_next lines items line [] x some begun says = absurd (omega (arith, some))
  begins_next lines items line (next ∷ more) x some begun says =
      begins_more [] lines items line next more x begun (subst (λ o. g.Says o line x) (sym (append-nil (reverse items))) says)

  -- one line more was read
  pub reaches_more : (before : List X) (text : List ℕ) (items now : List X) (passed further : ℕ) (line after : List ℕ) (x : X)
      → Reaches g before text items (drop passed text) → drop passed text ≡ line ++ 10 ∷ after → pieces 10 (drop passed text) ≡ line ∷ pieces 10 after
      → further ≡ passed + (length line + 1) → g.Says (reverse items) line x → now ≡ items ++ x ∷ [] → Reaches g before text now (drop further text)
  reaches_more before text items now passed further line after x so_far cut cuts far says pushed = λ lines begun.
      let left : drop further text ≡ after =
      ap (λ n. drop n text) far ∙ sym (drop-drop (length line + 1) passed text) ∙ ap (drop (length line + 1)) cut
      ∙ (let one : drop (length line + 1) (line ++ 10 ∷ after) ≡ drop 1 (drop (length line) (line ++ 10 ∷ after)) = sym (drop-drop 1 (length line) (line ++ 10 ∷ after)) in
      one ∙ ap (drop 1) (drop-append_seam line (10 ∷ after)))
      in
      let here = subst (λ ls. Begins g [] lines items ls) cuts (so_far lines begun) in
      let next = begins_next lines items line (pieces 10 after) x (pieces-some 10 after) here says in
      rw (pushed, left) next

  -- the line behind those that were read has a fault
  pub fails_at : (before : List X) (text : List ℕ) (items now : List X) (left line after : List ℕ) (why : Why) → Reaches g before text items left
      → pieces 10 left ≡ line ∷ pieces 10 after → g.Fails (reverse items) line why → now ≡ items → FailsIn g before text now why
  fails_at before text items now left line after why so_far cuts fails same = rw same
      (λ lines begun. (pieces 10 left, so_far lines begun, subst (λ ls. Stops g (reverse items) ls why) (sym cuts) (followed (pieces 10 after) (pieces-some 10 after))))
    where
      followed : (more : List (List ℕ)) → 0 < length more → Stops g (reverse items) (line ∷ more) why
      followed [] some = absurd (omega (arith, some))
      followed (next ∷ more) some = fails

  -- it has no line feed
  pub fails_unended : (before : List X) (text : List ℕ) (items : List X) (left : List ℕ) → Reaches g before text items left
      → pieces 10 left ≡ left ∷ [] → left ≢ [] → FailsIn g before text items reason.Ending
  fails_unended before text items left so_far cuts some =
      λ lines begun. (pieces 10 left, so_far lines begun, subst (λ ls. Stops g (reverse items) ls reason.Ending) (sym cuts) (refl, λ both. some both.0))

  -- the line behind those that were read has a fault, or memory ran out for it
  pub fails_by : (before : List X) (text : List ℕ) (items now : List X) (left line after : List ℕ) (e : LineFault) → Reaches g before text items left
      → pieces 10 left ≡ line ∷ pieces 10 after → HasReason (g.Fails (reverse items) line) e → now ≡ items → HasReason (FailsIn g before text now) e
  fails_by before text items now left line after (one.Bad why) so_far cuts fails same = fails_at before text items now left line after why so_far cuts fails same
  fails_by before text items now left line after one.Memory so_far cuts fails same = tt

  -- a first line, and lines behind it
  pub file_behind : (bytes first : List ℕ) (rest : List (List ℕ)) (items : List X) → g.IsTitle first → pieces 10 bytes ≡ first ∷ rest → AreSaid g rest items
      → IsFileOf g bytes items
  file_behind bytes first rest items title cut said = subst (λ ls. AreAmong g ls items) (sym cut) (title, said)

  pub bad_behind : (bytes first : List ℕ) (rest : List (List ℕ)) (bad : BadLine) → g.IsTitle first → pieces 10 bytes ≡ first ∷ rest → 0 < length rest
      → IsBadBehind g rest bad → IsBadFile g bytes bad
  bad_behind bytes first rest bad title cut some is = subst (λ ls. IsBadAmong g ls bad) (sym cut) (followed rest some is)
    where
      followed : (more : List (List ℕ)) → 0 < length more → IsBadBehind g more bad → IsBadAmong g (first ∷ more) bad
      followed [] some is = absurd (omega (arith, some))
      followed (next ∷ more) some is = inr (title, is)

  -- the refusal of a line names it
  pub refused_behind : (lines : List (List ℕ)) (items : List X) (place : ℕ) (e : LineFault) → place ≡ length items + 2 → HasReason (StopsBehind g lines items) e
      → NamesLine (IsBadBehind g lines) (refusal_at place e)
  refused_behind lines items place (one.Bad why) at stops = record { items = items; left = stops.0; begun = stops.1; place = at; fault = stops.2 }
  refused_behind lines items place one.Memory at stops = tt

  pub named_behind : (bytes first : List ℕ) (rest : List (List ℕ)) (e : ReadLog) → g.IsTitle first → pieces 10 bytes ≡ first ∷ rest → 0 < length rest
      → NamesLine (IsBadBehind g rest) e → NamesLine (IsBadFile g bytes) e
  named_behind bytes first rest (file.Bad bad) title cut some named = bad_behind bytes first rest bad title cut some named
  named_behind bytes first rest file.Memory title cut some named = tt

  -- the first line is another one
  pub other_title : (bytes first : List ℕ) (more : List (List ℕ)) → pieces 10 bytes ≡ first ∷ more → 0 < length more → ¬ (g.IsTitle first)
      → IsBadFile g bytes (record { place = 1; why = reason.Head })
  other_title bytes first more cut some other = subst (λ ls. IsBadAmong g ls (record { place = 1; why = reason.Head })) (sym cut) (followed more some)
    where
      followed : (more : List (List ℕ)) → 0 < length more → IsBadAmong g (first ∷ more) (record { place = 1; why = reason.Head })
      followed [] some = absurd (omega (arith, some))
      followed (next ∷ more) some = inl (refl, refl, other)

  -- where all of a text was passed over, nothing is left
  pub reached_end : (before : List X) (text : List ℕ) (items : List X) (passed : ℕ) → Reaches g before text items (drop passed text) → length text ≤ passed
      → (lines : List (List ℕ)) → Begins g [] lines before (pieces 10 text) → Begins g [] lines items ([] ∷ [])
  reached_end before text items passed reaches all lines begun =
      subst (λ left. Begins g [] lines items (pieces 10 left)) (drop_all passed text all) (reaches lines begun)

  -- a line is refused behind those that were read
  pub stops_from : (before : List X) (text : List ℕ) (items : List X) (e : LineFault) (lines : List (List ℕ)) → HasReason (FailsIn g before text items) e
      → Begins g [] lines before (pieces 10 text) → HasReason (StopsBehind g lines items) e
  stops_from before text items (one.Bad why) lines fails begun = fails lines begun
  stops_from before text items one.Memory lines fails begun = tt

  -- all lines were read, and a file may end there or not
  pub ends_as : {T : Type 0} (lines : List (List ℕ)) (items : List X) (r : Result T LineFault) → Begins g [] lines items ([] ∷ [])
      → IfOk r (λ _. IsTrue (g.may_end (reverse items))) → IfErr r (HasReason (Stops g (reverse items) ([] ∷ []))) → EndsAs g lines items r
  ends_as lines items (Ok x) begun ends stops = (begun, ends)
  ends_as lines items (Err (one.Bad why)) begun ends stops = ([] ∷ [], begun, stops)
  ends_as lines items (Err one.Memory) begun ends stops = tt

  -- nothing was said before the first line
  pub begins_all : (items : List X) (lines : List (List ℕ)) → items ≡ [] → Begins g [] lines items lines
  begins_all items lines none = subst (λ xs. Begins g [] lines xs lines) (sym none) refl

  -- a first line that has no line feed
  pub title_ended : (line : List ℕ) (r : Bool) → pieces 10 line ≡ line ∷ [] → MatchBool r (g.IsTitle line) (¬ (g.IsTitle line)) → r ≡ true
      → IsBadFile g line (record { place = 1; why = reason.Ending })
  title_ended line true cut is holds =
      let bad : BadLine = record { place = 1; why = reason.Ending } in
      let fault : IsTitleFault g.IsTitle line reason.Ending = inl (refl, is) in
      let among : IsBadAmong g (line ∷ []) bad = (refl, fault) in
      subst (λ (ls : List (List ℕ)). IsBadAmong g ls bad) (sym cut) among
  title_ended line false cut is holds = absurd (false≢true holds)

  -- another line that has no line feed
  pub title_other : (line : List ℕ) (r : Bool) → pieces 10 line ≡ line ∷ [] → MatchBool r (g.IsTitle line) (¬ (g.IsTitle line)) → r ≡ false
      → IsBadFile g line (record { place = 1; why = reason.Head })
  title_other line true cut is fails = absurd (false≢true (sym fails))
  title_other line false cut is fails =
      let bad : BadLine = record { place = 1; why = reason.Head } in
      let fault : IsTitleFault g.IsTitle line reason.Head = inr (refl, is) in
      let among : IsBadAmong g (line ∷ []) bad = (refl, fault) in
      subst (λ (ls : List (List ℕ)). IsBadAmong g ls bad) (sym cut) among

  pub title_is : (line : List ℕ) (r : Bool) → MatchBool r (g.IsTitle line) (¬ (g.IsTitle line)) → r ≡ true → g.IsTitle line
  title_is line true is holds = is
  title_is line false is holds = absurd (false≢true holds)

  pub title_not : (line : List ℕ) (r : Bool) → MatchBool r (g.IsTitle line) (¬ (g.IsTitle line)) → r ≡ false → ¬ (g.IsTitle line)
  title_not line true is fails = absurd (false≢true (sym fails))
  title_not line false is fails = is
