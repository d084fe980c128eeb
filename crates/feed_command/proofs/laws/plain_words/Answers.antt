use Rattle.feed_command.proofs.PlainForms.{whole_is_asked, active_only_is_asked, no_revocations_is_asked, channels_are_asked}
use Rattle.feed_command.proofs.laws.plain_words.Goals as goal

pub returns-clause-whole : goal.returns-clause-whole
returns-clause-whole c = whole_is_asked

pub returns-clause-active_only : goal.returns-clause-active_only
returns-clause-active_only c = active_only_is_asked

pub returns-clause-no_revocations : goal.returns-clause-no_revocations
returns-clause-no_revocations c = no_revocations_is_asked

pub returns-clause-channels : goal.returns-clause-channels
returns-clause-channels c = channels_are_asked
