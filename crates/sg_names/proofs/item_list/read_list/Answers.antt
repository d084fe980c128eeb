use Rattle.sg_names.proofs.item_list.read_list.Goals as goal

pub returns-clause-outside : goal.returns-clause-outside
returns-clause-outside g c = λ none.
    let has = c.is_list.ensures.yes c.if-not-is_list.false in
    absurd (none has.0 has.1 has.2)
