use Rattle.std.proofs.Common.{rules}
use Rattle.serde_json.specs.View.{view}
use Rattle.gateway_config.specs.Faults.{IsResultOf, config_fault}
use Rattle.gateway_config.specs.Values.{IsTextOf}
use Rattle.gateway_config.proofs.Answered.{accepted_by, config_read, refused_by}
use Rattle.gateway_config.proofs.read.read_config.Goals as goal

pub returns-in_err-value-clause-accepted : goal.returns-in_err-value-clause-accepted
returns-in_err-value-clause-accepted c =
    let given : IsResultOf (config_fault c.args.bytes.now) (λ config. IsTextOf c.args.bytes.now config) c.from_residual.result = search (rules, c.in_err-value.ensures.fault) in
    accepted_by (config_fault c.args.bytes.now) (λ config. IsTextOf c.args.bytes.now config) c.from_residual.result given

pub returns-in_err-value-clause-refused : goal.returns-in_err-value-clause-refused
returns-in_err-value-clause-refused c =
    let given : IsResultOf (config_fault c.args.bytes.now) (λ config. IsTextOf c.args.bytes.now config) c.from_residual.result = search (rules, c.in_err-value.ensures.fault) in
    refused_by (config_fault c.args.bytes.now) (λ config. IsTextOf c.args.bytes.now config) c.from_residual.result given

pub returns-clause-exact : goal.returns-clause-exact
returns-clause-exact c = config_read c.args.bytes.now (view c.in_ok-value.value) c.read_value-config.result c.in_ok-value.ensures.ok c.read_value-config.ensures

pub returns-clause-accepted : goal.returns-clause-accepted
returns-clause-accepted c =
    accepted_by (config_fault c.args.bytes.now) (λ config. IsTextOf c.args.bytes.now config) c.read_value-config.result
    (config_read c.args.bytes.now (view c.in_ok-value.value) c.read_value-config.result c.in_ok-value.ensures.ok c.read_value-config.ensures)

pub returns-clause-refused : goal.returns-clause-refused
returns-clause-refused c =
    refused_by (config_fault c.args.bytes.now) (λ config. IsTextOf c.args.bytes.now config) c.read_value-config.result
    (config_read c.args.bytes.now (view c.in_ok-value.value) c.read_value-config.result c.in_ok-value.ensures.ok c.read_value-config.ensures)
