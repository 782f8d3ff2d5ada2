use Rattle.ac_colours.proofs.Chains.{made_before, made_before_in_chain, chain_runs}
use Rattle.ac_colours.proofs.SealTypes.{tells_its_birth}
use Rattle.ac_colours.proofs.laws.made_before.Goals as goal

pub returns-clause-runs : goal.returns-clause-runs
returns-clause-runs c = λ runs all l h k n. made_before runs all l h k n

pub returns-clause-chain : goal.returns-clause-chain
returns-clause-chain c = λ N parts input all l h k n. made_before_in_chain N parts input all l h k n

pub returns-clause-chained : goal.returns-clause-chained
returns-clause-chained c = λ N parts input all k. chain_runs N parts input all k

pub returns-clause-told : goal.returns-clause-told
returns-clause-told c = λ E x before h b j. tells_its_birth E x before h b j
