use Rattle.std.proofs.Common.{◌≡◌, ℕ, Bool, true, false, refl, sym, ap, ◌∙◌, if◌then◌else◌, List, Option, Some, None}
use Rattle.std.specs.Prelude.{◌↔◌}
use Rattle.std.proofs.lemmas.Bool.{false≢true}
use Rattle.std.proofs.lemmas.Option.{none-some}
use Rattle.sg_history.specs.View.{Shown}
use Rattle.sg_history.specs.Device.{Held, held_of, shown_to}
use Rattle.feed_rows.proofs.AnyFeed.{feed_had}
use Rattle.feed_rows.proofs.ShownRows.{feed_facts}
use Rattle.feed_rows.proofs.laws.said.Goals as goal

-- a row is gone exactly where nothing is shown
gone_where : (gone : Bool) (held : Held) (o : Option Shown) → (if gone then None else Some held) ≡ held_of o → (gone ≡ true) ↔ (o ≡ None)
gone_where true held None h = (λ e. refl, λ e. refl)
gone_where true held (Some shown) h = absurd (none-some _ h)
gone_where false held None h = absurd (none-some _ (sym h))
gone_where false held (Some shown) h = (λ e. absurd (false≢true e), λ e. absurd (none-some _ (sym e)))

pub returns-clause-gone : goal.returns-clause-gone
returns-clause-gone c = λ es user filter doc row is. gone_where _ _ _ (sym ((feed_facts user filter).shows es doc row is))

pub returns-clause-shown : goal.returns-clause-shown
returns-clause-shown c = λ es user filter doc row is. sym ((feed_facts user filter).shows es doc row is)

pub returns-clause-of_feed : goal.returns-clause-of_feed
returns-clause-of_feed c = λ es user since options row there.
    let asked = feed_had _ _ (feed_facts user options.filter) es since options row there in
    sym ((feed_facts user options.filter).shows es asked.0 row asked.1)
    ∙ ap (λ (doc : List ℕ). shown_to es user options.filter doc) (sym ((feed_facts user options.filter).own es asked.0 row asked.1))
