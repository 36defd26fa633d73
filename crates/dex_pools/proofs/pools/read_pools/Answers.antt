use Rattle.dex_pools.proofs.PoolReading.{found, only}
use Rattle.dex_pools.proofs.pools.read_pools.Goals as goal

pub returns-clause-found : goal.returns-clause-found
returns-clause-found c = found c.args.bytes.now 16777216 c.read_pools_counted.result c.read_pools_counted.new.left c.read_pools_counted.ensures.gives

pub returns-clause-only : goal.returns-clause-only
returns-clause-only c = only c.args.bytes.now 16777216 c.read_pools_counted.result c.read_pools_counted.new.left c.read_pools_counted.ensures.gives
