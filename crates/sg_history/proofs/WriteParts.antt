-- the fields of a write, in the four parts in which they are read
use Rattle.std.proofs.Common.{ℕ, List, [], ◌∷◌, refl}
use Rattle.sg_history.specs.declared.fault.LineFault.{LineFault}
use Rattle.sg_history.specs.declared.line_of_write.WriteTexts.{WriteTexts}
use Rattle.sg_history.specs.Line.{texts_of}
use Rattle.sg_history.specs.Faults.{Grammar, AreTexts, IsBadTextAmong, document, revision, revisions, deleted, body, writer, number, channels, grants, role_grants, write_grammars}
use Rattle.sg_history.proofs.FaultLemmas.{bad_in_front, bad_behind}

abbrev pub tree_grammars : List Grammar
tree_grammars = document ∷ revision ∷ revisions ∷ []

abbrev pub tree_texts : WriteTexts → List (List ℕ)
tree_texts t = t.doc.now ∷ t.rev.now ∷ t.ancestors.now ∷ []

abbrev pub content_grammars : List Grammar
content_grammars = deleted ∷ body ∷ writer ∷ []

abbrev pub content_texts : WriteTexts → List (List ℕ)
content_texts t = t.deleted.now ∷ t.body.now ∷ t.by.now ∷ []

abbrev pub place_grammars : List Grammar
place_grammars = number ∷ revision ∷ channels ∷ []

abbrev pub place_texts : WriteTexts → List (List ℕ)
place_texts t = t.at.now ∷ t.winner.now ∷ t.channels.now ∷ []

abbrev pub grant_grammars : List Grammar
grant_grammars = grants ∷ role_grants ∷ []

abbrev pub grant_texts : WriteTexts → List (List ℕ)
grant_texts t = t.grants.now ∷ t.roles.now ∷ []

abbrev late_grammars : List Grammar
late_grammars = number ∷ revision ∷ channels ∷ grants ∷ role_grants ∷ []

abbrev late_texts : WriteTexts → List (List ℕ)
late_texts t = t.at.now ∷ t.winner.now ∷ t.channels.now ∷ t.grants.now ∷ t.roles.now ∷ []

abbrev behind_grammars : List Grammar
behind_grammars = deleted ∷ body ∷ writer ∷ late_grammars

abbrev behind_texts : WriteTexts → List (List ℕ)
behind_texts t = t.deleted.now ∷ t.body.now ∷ t.by.now ∷ late_texts t

-- a field of the first part is outside its grammar
pub bad_tree : (t : WriteTexts) (e : LineFault) → IsBadTextAmong 2 tree_grammars (tree_texts t) e → IsBadTextAmong 2 write_grammars (texts_of t) e
bad_tree t e bad = bad_in_front 2 tree_grammars behind_grammars (tree_texts t) (behind_texts t) e bad

behind_tree : (t : WriteTexts) (e : LineFault) → AreTexts tree_grammars (tree_texts t) → IsBadTextAmong 5 behind_grammars (behind_texts t) e
    → IsBadTextAmong 2 write_grammars (texts_of t) e
behind_tree t e tree bad =
    bad_behind 2 5 tree_grammars behind_grammars (tree_texts t) (behind_texts t) e tree refl bad

-- a field of the second part is outside its grammar
pub bad_content : (t : WriteTexts) (e : LineFault) → AreTexts tree_grammars (tree_texts t) → IsBadTextAmong 5 content_grammars (content_texts t) e
    → IsBadTextAmong 2 write_grammars (texts_of t) e
bad_content t e tree bad = behind_tree t e tree (bad_in_front 5 content_grammars late_grammars (content_texts t) (late_texts t) e bad)

behind_content : (t : WriteTexts) (e : LineFault) → AreTexts tree_grammars (tree_texts t) → AreTexts content_grammars (content_texts t)
    → IsBadTextAmong 8 late_grammars (late_texts t) e → IsBadTextAmong 2 write_grammars (texts_of t) e
behind_content t e tree content bad =
    behind_tree t e tree (bad_behind 5 8 content_grammars late_grammars (content_texts t) (late_texts t) e content refl bad)

-- a field of the third part is outside its grammar
pub bad_place : (t : WriteTexts) (e : LineFault) → AreTexts tree_grammars (tree_texts t) → AreTexts content_grammars (content_texts t)
    → IsBadTextAmong 8 place_grammars (place_texts t) e → IsBadTextAmong 2 write_grammars (texts_of t) e
bad_place t e tree content bad =
    behind_content t e tree content (bad_in_front 8 place_grammars grant_grammars (place_texts t) (grant_texts t) e bad)

-- a field of the last part is outside its grammar
pub bad_grants : (t : WriteTexts) (e : LineFault) → AreTexts tree_grammars (tree_texts t) → AreTexts content_grammars (content_texts t)
    → AreTexts place_grammars (place_texts t) → IsBadTextAmong 11 grant_grammars (grant_texts t) e → IsBadTextAmong 2 write_grammars (texts_of t) e
bad_grants t e tree content place bad =
    behind_content t e tree content (bad_behind 8 11 place_grammars grant_grammars (place_texts t) (grant_texts t) e place refl bad)
