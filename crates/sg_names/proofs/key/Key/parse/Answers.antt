use Rattle.sg_names.proofs.KeyTexts.{key_read, key_low, key_bad}
use Rattle.sg_names.proofs.key.Key.parse.Goals as goal

pub returns-clause-read : goal.returns-clause-read
returns-clause-read c = key_read c.args.text.now c.find_key.result c.find_key.ensures.ok c.find_key.ensures.low_form c.find_key.ensures.bad_key

pub returns-clause-low_form : goal.returns-clause-low_form
returns-clause-low_form c = key_low c.args.text.now c.find_key.result c.find_key.ensures.ok c.find_key.ensures.low_form c.find_key.ensures.bad_key

pub returns-clause-bad_key : goal.returns-clause-bad_key
returns-clause-bad_key c = key_bad c.args.text.now c.find_key.result c.find_key.ensures.ok c.find_key.ensures.low_form c.find_key.ensures.bad_key
