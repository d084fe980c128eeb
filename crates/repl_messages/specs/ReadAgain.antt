-- Payloads that are read again as they were written.
use Rattle.std.specs.Prelude.{◌≡◌, ◌≤◌, ℕ, false, List, [], ◌∷◌, map, length, None, Ok, All, IsTrue}
use Rattle.blip_frame.specs.Payload.{HasNoNul}
use Rattle.blip_frame.specs.Props.{keys_of, stands_twice}
use Rattle.blip_frame.specs.declared.payload.Payload.{Payload}
use Rattle.sg_names.specs.Grammar.{is_doc_id}
use Rattle.sg_names.specs.Key.{is_key}
use Rattle.sg_names.specs.RevId.{is_rev}
use Rattle.sg_names.specs.declared.rev_id.RevId.{RevId}
use Rattle.sg_history.specs.Feed.{is_deleted}
use Rattle.sg_history.specs.declared.row.Row.{Row}
use Rattle.repl_messages.specs.declared.offers.Offer.{Offer}
use Rattle.repl_messages.specs.declared.request.Version.{Version}
use Rattle.repl_messages.specs.declared.request.Request.TheVariants.{Changes}
use Rattle.repl_messages.specs.declared.revision.Revision.{Revision}
use Rattle.repl_messages.specs.Requests.{IsAnswer}

-- no NUL in a key or a value, and no key twice
pub record IsReadAgain (payload : Payload) : Type 0 where
  pub closable : All HasNoNul payload.props
  pub once : stands_twice (keys_of payload.props) ≡ false

-- document, revision and key are in their grammar
pub record IsInGrammar (row : Row) : Type 0 where
  pub doc : IsTrue (is_doc_id row.doc)
  pub rev : IsTrue (is_rev row.rev)
  pub key : IsTrue (is_key row.key)

-- the revision that a row is of, with its ancestors and its body
abbrev pub revision_of_row : Row → List RevId → List ℕ → Revision
revision_of_row row ancestors body =
    record {
      doc = row.doc;
      rev = row.rev;
      ancestors = ancestors;
      deleted = is_deleted row.bits;
      noconflicts = false;
      body = body;
    }

-- each of these rows is in its grammar
abbrev pub AreInGrammar : List Row → Type 0
AreInGrammar [] = Unit {0}
AreInGrammar (row ∷ rows) = IsInGrammar row × AreInGrammar rows

-- what rows offer: their documents' revisions, without parents
abbrev pub offers_of : List Row → List Offer
offers_of rows = map (λ row. record { doc = row.doc; rev = row.rev; parent = None }) rows

-- a `changes` of rows that are in their grammar and not too many is read as the offers of these rows
abbrev pub IsReadAsOffers : Payload → List Row → Version → Type 0
IsReadAsOffers payload rows version =
    AreInGrammar rows → length rows ≤ 10000 → IsAnswer payload version (Ok (Changes (offers_of rows)))
