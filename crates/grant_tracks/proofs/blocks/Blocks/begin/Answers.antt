use Rattle.std.proofs.Common.{◌≡◌, ◌≤◌, ◌<◌, ◌-◌, ◌∙◌, sym, ap, subst, arith, ℕ, List, [], ◌∷◌, ◌++◌, length}
use Rattle.std.specs.Prelude.{slice_index_or}
use Rattle.std.specs.List.Sorted.{IsNonDecreasingBy}
use Rattle.std.proofs.lemmas.List.Sorted.{IsNonDecreasingBy-push}
use Rattle.grant_tracks.specs.declared.blocks.Block.{Block}
use Rattle.grant_tracks.specs.Listed.{is_in}
use Rattle.grant_tracks.specs.Blocks.{covering}
use Rattle.grant_tracks.proofs.Blocked.{begun_kept, more_ended}
use Rattle.grant_tracks.proofs.blocks.Blocks.begin.Goals as goal

pub returns-then-is_ok-clause-kept : goal.returns-then-is_ok-clause-kept
returns-then-is_ok-clause-kept c = λ k x h has.
    let past = c.args.self.now.past.items in
    let b : Block = record { to = c.args.at; list = c.replace-list.result } in
    let new = c.replace-list.new.dest.items in
    let pushed : c.push_reserved.new.self.items ≡ past ++ b ∷ [] = c.push_reserved.ensures.items ∙ ap (λ (l : List Block). l ++ b ∷ []) c.reserve.ensures.items in
    ap (λ (l : List Block). is_in (covering l new k) x) pushed
    ∙ begun_kept past b c.args.self.now.last.items new k x (λ i d w. omega (arith, c.requires, c.args.self.now.ended i d w))
    (ap (λ v. v.items) c.replace-list.ensures.value) h
    (λ le. ap (λ v. is_in v.items x) c.replace-list.ensures.after ∙ c.once-list.ensures x (has le))

pub invariant_of-self : goal.invariant_of-self
invariant_of-self c =
    let past = c.args.self.now.past.items in
    let b : Block = record { to = c.args.at; list = c.replace-list.result } in
    let pushed : c.push_reserved.new.self.items ≡ past ++ b ∷ [] = c.push_reserved.ensures.items ∙ ap (λ (l : List Block). l ++ b ∷ []) c.reserve.ensures.items in
    record {
      rising = subst (λ (l : List Block). IsNonDecreasingBy (λ (x : Block). x.to) l) (sym pushed)
          (IsNonDecreasingBy-push (λ (x : Block). x.to) past b c.args.self.now.rising (λ d some. omega (arith, c.requires, c.args.self.now.ended (length past - 1) d (omega (arith, some)))));
      ended = subst (λ (l : List Block). (i : ℕ) (d : Block) → i < length l → (slice_index_or l i d).to ≤ c.args.at) (sym pushed)
          (more_ended past b c.args.self.now.from c.args.self.now.ended c.requires);
    }
