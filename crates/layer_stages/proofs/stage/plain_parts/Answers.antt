use Rattle.matroid_partition.specs.Partitions.{blocks_of}
use Rattle.layer_stages.proofs.PlainLaws.{plain-spare, spare-plain, plain-witness}
use Rattle.layer_stages.proofs.stage.plain_parts.Goals as goal

pub returns-clause-partition : goal.returns-clause-partition
returns-clause-partition c = plain-spare c.args.rows.now (blocks_of c.in_ok-parts.parts) c.in_ok-parts.ensures.partition

pub returns-clause-witness : goal.returns-clause-witness
returns-clause-witness c = plain-witness c.args.rows.now (blocks_of c.in_ok-parts.parts) c.in_ok-parts.parts.witness.items c.in_ok-parts.ensures.witness

pub returns-clause-least : goal.returns-clause-least
returns-clause-least c other p = c.in_ok-parts.ensures.least other (spare-plain c.args.rows.now other p)
