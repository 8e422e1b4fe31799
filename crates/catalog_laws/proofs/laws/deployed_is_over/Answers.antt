use Rattle.catalog_laws.proofs.OverConnections.{deployed_is_over}
use Rattle.catalog_laws.proofs.laws.deployed_is_over.Goals as goal

pub returns : goal.returns
returns c = deployed_is_over
