-- Each arm is a kind that holds a monomial, and has its length. Assumes nothing.
use Rattle.records.proofs.OneRecord.{only_fact, answer_monomial, condition_monomial, fact_monomial}
use Rattle.records.proofs.monomial_in.Goals as goal

pub returns-in-Answer-clause-is : goal.returns-in-Answer-clause-is
returns-in-Answer-clause-is c = answer_monomial _ c.requires.0 c.in-Answer.is c.from.ensures c.mask_of.ensures

pub returns-in-Condition-clause-is : goal.returns-in-Condition-clause-is
returns-in-Condition-clause-is c = condition_monomial _ c.requires.0 c.in-Condition.is c.mask_of-in-Condition.ensures

pub returns-in_default-clause-is : goal.returns-in_default-clause-is
returns-in_default-clause-is c =
    fact_monomial _ c.requires.0 (only_fact _ c.requires.1 c.in_default.not-Answer c.in_default.not-Condition) c.mask_of-in_default.ensures
