-- the revision that the gateway makes itself
use Rattle.std.specs.Prelude.{ℕ, ◌+◌, Bool, List, [], ◌∷◌, ◌++◌, Option, Some, None, if◌then◌else◌}
use Rattle.md5.specs.Md5.{md5}
use Rattle.hex.specs.Hex.{encode_lower}
use Rattle.sg_names.specs.declared.rev_id.RevId.{RevId}
use Rattle.sg_names.specs.RevId.{rev_text}

-- the generation of a parent, 0 where there is none
abbrev pub generation_of : Option RevId → ℕ
generation_of None = 0
generation_of (Some parent) = parent.generation

-- the text of a parent, empty where there is none
abbrev pub parent_text : Option RevId → List ℕ
parent_text None = []
parent_text (Some parent) = rev_text parent

-- the character `1` for deleted, else `0`
abbrev pub deleted_mark : Bool → ℕ
deleted_mark deleted = if deleted then 49 else 48

-- what the digest is taken of: the parent's text, a zero byte, the deleted mark, a zero byte, and the body
abbrev pub digest_input : Option RevId → Bool → List ℕ → List ℕ
digest_input parent deleted body = parent_text parent ++ 0 ∷ deleted_mark deleted ∷ 0 ∷ body

-- one generation above the parent, or 1, with the MD5 (RFC 1321) in 32 lower-case hexadecimal digits as digest
unfoldable pub own_rev_of : Option RevId → Bool → List ℕ → RevId
own_rev_of parent deleted body =
    record { generation = generation_of parent + 1; digest = encode_lower (md5 (digest_input parent deleted body)) }
