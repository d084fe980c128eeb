-- the grammars of names, over the bytes of a text that is UTF-8
use Rattle.std.specs.Prelude.{ℕ, Bool, false, ◌&&◌, not, nat_lt, nat_le, nat_eq, List, [], ◌∷◌, length}
use Rattle.std.specs.List.{list_all}
use Rattle.std.specs.Str.{bytes_eq}

-- no control character: none below U+0020, and not U+007F
abbrev pub is_plain_byte : ℕ → Bool
is_plain_byte b = nat_le 32 b && not (nat_eq b 127)

-- no control characters
abbrev pub is_plain : List ℕ → Bool
is_plain text = list_all (λ b. is_plain_byte b) text

-- 1 to 250 bytes without control characters
abbrev pub is_plain_text : List ℕ → Bool
is_plain_text text = nat_lt 0 (length text) && nat_le (length text) 250 && is_plain text

-- the byte does not stand in the text
abbrev pub lacks : ℕ → List ℕ → Bool
lacks byte text = list_all (λ b. not (nat_eq b byte)) text

-- the text `-`, which stands for none
abbrev pub is_dash : List ℕ → Bool
is_dash text = bytes_eq text (45 ∷ [])

-- a channel's name: no comma, and not `-`
abbrev pub is_channel_name : List ℕ → Bool
is_channel_name text = is_plain_text text && lacks 44 text && not (is_dash text)

-- a user's or a role's name: a channel's name without `:` and `=`
abbrev pub is_name : List ℕ → Bool
is_name text = is_channel_name text && lacks 58 text && lacks 61 text

abbrev pub begins_with_underscore : List ℕ → Bool
begins_with_underscore [] = false
begins_with_underscore (b ∷ bs) = nat_eq b 95

-- a document's name does not begin with `_`
abbrev pub is_doc_id : List ℕ → Bool
is_doc_id text = is_plain_text text && not (begins_with_underscore text)

-- a client's name
abbrev pub is_client : List ℕ → Bool
is_client text = is_plain_text text

-- a printing character other than the blank and the comma
abbrev pub is_digest_byte : ℕ → Bool
is_digest_byte b = nat_le 33 b && nat_le b 126 && not (nat_eq b 44)

-- a revision's digest: 1 to 64 such bytes
abbrev pub is_digest : List ℕ → Bool
is_digest text = nat_lt 0 (length text) && nat_le (length text) 64 && list_all (λ b. is_digest_byte b) text
