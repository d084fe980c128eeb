use Rattle.std.proofs.Common.{◌+◌, ap, refl, sym, subst, List, Option, Some, length, reverse, ℕ}
use Rattle.std.specs.Prelude.{IfSome, IfNone}
use Rattle.std.specs.BTreeMap.{get_by_text}
use Rattle.std.proofs.lemmas.List.{length-reverse}
use Rattle.sg_history.specs.declared.entries.Entry.{Entry}
use Rattle.rev_tree.specs.declared.tree.Node.{Node}
use Rattle.doc_board.specs.Candidates.{ExtendsTree}
use Rattle.doc_board.specs.Kept.{AreKept, kept_nodes}
use Rattle.doc_board.specs.Recorded.{IsFollowingWrite}
use Rattle.rev_tree.specs.Documents.{tree_at}
use Rattle.doc_board.proofs.Documents.{kept_with, accepted_with, place_made, nodes_found}
use Rattle.doc_board.proofs.open.take_write.Goals as goal

pub returns-in-Ok-clause-kept : goal.returns-in-Ok-clause-kept
returns-in-Ok-clause-kept c = λ _.
    let es : List Entry = reverse c.args.older.now in
    let w = c.args.write.now in
    let nodes : List Node = kept_nodes (get_by_text c.args.documents.now w.doc) in
    let E : Option (List Node) → Type 0 = λ o. IfSome o (λ after. ExtendsTree nodes w after) in
    let F : List Node → Type 0 = λ before. ExtendsTree before w c.in-Some.tree in
    let extends : ExtendsTree (tree_at es w.doc) w c.in-Some.tree = subst F (nodes_found es c.args.documents.now w.doc c.requires.kept) (subst E c.in-Some.is c.in_ok-tree.ensures.some) in
    let made : AreKept es c.make_place_for.new.documents = place_made es c.args.documents.now c.make_place_for.new.documents (Some w.doc) c.in-Ok.ensures.ok c.requires.kept in
    kept_with w es c.make_place_for.new.documents c.put.new.documents (length c.args.older.now + 1) c.in-Some.tree (ap (λ (n : ℕ). n + 1) (sym (length-reverse c.args.older.now))) extends c.put.ensures made

pub returns-in-Ok-clause-accepted : goal.returns-in-Ok-clause-accepted
returns-in-Ok-clause-accepted c = λ _.
    let es : List Entry = reverse c.args.older.now in
    let w = c.args.write.now in
    let nodes : List Node = kept_nodes (get_by_text c.args.documents.now w.doc) in
    let E : Option (List Node) → Type 0 = λ o. IfSome o (λ after. ExtendsTree nodes w after) in
    let F : List Node → Type 0 = λ before. ExtendsTree before w c.in-Some.tree in
    accepted_with w es c.in-Some.tree (subst F (nodes_found es c.args.documents.now w.doc c.requires.kept) (subst E c.in-Some.is c.in_ok-tree.ensures.some)) c.requires.accepted

pub returns-in-Ok-clause-yes : goal.returns-in-Ok-clause-yes
returns-in-Ok-clause-yes c = λ _.
    let es : List Entry = reverse c.args.older.now in
    let w = c.args.write.now in
    let nodes : List Node = kept_nodes (get_by_text c.args.documents.now w.doc) in
    let E : Option (List Node) → Type 0 = λ o. IfSome o (λ after. IsFollowingWrite nodes w) in
    let F : List Node → Type 0 = λ before. IsFollowingWrite before w in
    (subst F (nodes_found es c.args.documents.now w.doc c.requires.kept) (subst E c.in-Some.is c.in_ok-tree.ensures.next), refl)

pub returns-in_default-clause-no : goal.returns-in_default-clause-no
returns-in_default-clause-no c = λ _ may.
    let es : List Entry = reverse c.args.older.now in
    let w = c.args.write.now in
    let nodes : List Node = kept_nodes (get_by_text c.args.documents.now w.doc) in
    let E : Option (List Node) → Type 0 = λ o. IfNone o (¬ IsFollowingWrite nodes w) in
    let F : List Node → Type 0 = λ before. ¬ IsFollowingWrite before w in
    subst F (nodes_found es c.args.documents.now w.doc c.requires.kept) (subst E c.in_default.is c.in_ok-tree.ensures.none) may.0
