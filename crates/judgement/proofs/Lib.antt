pub mod RuleLaws
pub mod JudgeLaws
