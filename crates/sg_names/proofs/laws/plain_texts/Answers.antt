use Rattle.sg_names.proofs.PlainTexts as plain
use Rattle.sg_names.proofs.laws.plain_texts.Goals as goal

pub returns-clause-decimals : goal.returns-clause-decimals
returns-clause-decimals c = plain.plain_decimal

pub returns-clause-hexadecimals : goal.returns-clause-hexadecimals
returns-clause-hexadecimals c = plain.plain_hex

pub returns-clause-keys : goal.returns-clause-keys
returns-clause-keys c = plain.plain_key

pub returns-clause-revisions : goal.returns-clause-revisions
returns-clause-revisions c = plain.plain_rev

pub returns-clause-channels : goal.returns-clause-channels
returns-clause-channels c = plain.plain_channels

pub returns-clause-names : goal.returns-clause-names
returns-clause-names c = plain.plain_names

pub returns-clause-revision_lists : goal.returns-clause-revision_lists
returns-clause-revision_lists c = plain.plain_revs

pub returns-clause-grants : goal.returns-clause-grants
returns-clause-grants c = plain.plain_grants

pub returns-clause-role_grants : goal.returns-clause-role_grants
returns-clause-role_grants c = plain.plain_role_grants

pub returns-clause-lacks_controls : goal.returns-clause-lacks_controls
returns-clause-lacks_controls c = plain.plain_lacks
