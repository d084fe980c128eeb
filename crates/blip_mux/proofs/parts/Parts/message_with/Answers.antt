use Rattle.std.proofs.Common.{◌≡◌, rules, Some, ap, sym, ◌∙◌}
use Rattle.std.specs.Ordering.{nat_cmp}
use Rattle.std.specs.FinMap as map
use Rattle.blip_mux.specs.Begun.{Begun}
use Rattle.blip_mux.proofs.Maps.{read, written_again, put_removed, on_ok, on_err, err_too}
use Rattle.blip_mux.proofs.parts.Parts.message_with.Goals as goal
use Rattle.blip_mux.proofs.parts.Parts.message_with.Goals.{in-Some, in-None}

pub returns-clause-ok : goal.returns-clause-ok
returns-clause-ok c = elim c.match-get_mut.branch [
  | in-Some w ↦
      let there = w.in-Some.ensures.value ∙ read c.self.inside.parts.entries c.args.self.now c.args.frame.now.number c.self.view_is in
      rw (w.result-is, sym there) w.message_with.ensures.ok
  | in-None w ↦
      let there = w.in-None.ensures.value ∙ read c.self.inside.parts.entries c.args.self.now c.args.frame.now.number c.self.view_is in
      rw (w.result-is, sym there) w.only_message.ensures.ok
]

pub returns-clause-fault : goal.returns-clause-fault
returns-clause-fault c = elim c.match-get_mut.branch [
  | in-Some w ↦
      let there = w.in-Some.ensures.value ∙ read c.self.inside.parts.entries c.args.self.now c.args.frame.now.number c.self.view_is in
      rw (w.result-is, sym there) w.message_with.ensures.fault
  | in-None w ↦
      let there = w.in-None.ensures.value ∙ read c.self.inside.parts.entries c.args.self.now c.args.frame.now.number c.self.view_is in
      rw (w.result-is, sym there) w.only_message.ensures.fault
]

pub returns-clause-after : goal.returns-clause-after
returns-clause-after c =
    let n = c.args.frame.now.number in
    let P : map.FinMap nat_cmp Begun → Type 0 = λ m. map.remove m n ≡ map.remove c.args.self.now n in
    elim c.match-get_mut.branch [
      | in-Some w ↦
          let h = put_removed c.self.inside.parts.entries (c.get_mut.follows.lender w.message_with.new.self).entries c.args.self.now n w.message_with.new.self c.self.view_is ((c.get_mut.follows.holds w.message_with.new.self).3 (search rules)).0 in
          on_ok c.match-get_mut.result (P _) (rw w.self-inside-is h)
      | in-None w ↦
          let h = ap (λ m. map.remove (map.from_entries m.entries) n) c.get_mut.follows.holds-at-none ∙ ap (λ m. map.remove m n) c.self.view_is in
          on_ok c.match-get_mut.result (P _) (rw w.self-inside-is h)
    ]

pub returns-clause-unchanged : goal.returns-clause-unchanged
returns-clause-unchanged c =
    let P : map.FinMap nat_cmp Begun → Type 0 = λ m. m ≡ c.args.self.now in
    elim c.match-get_mut.branch [
      | in-Some w ↦
          let there = w.in-Some.ensures.value ∙ read c.self.inside.parts.entries c.args.self.now c.args.frame.now.number c.self.view_is in
          rw w.result-is
          (err_too w.message_with.result _ (P _) w.message_with.ensures.unchanged
          (λ same. rw w.self-inside-is (written_again c.self.inside.parts.entries (c.get_mut.follows.lender w.message_with.new.self).entries c.args.self.now c.args.frame.now.number w.message_with.new.self c.self.view_is (ap Some same ∙ there) ((c.get_mut.follows.holds w.message_with.new.self).3 (search rules)).0)))
      | in-None w ↦ on_err c.match-get_mut.result (P _) (rw w.self-inside-is (ap (λ n. map.from_entries n.entries) c.get_mut.follows.holds-at-none ∙ c.self.view_is))
    ]
