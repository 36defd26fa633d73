use Rattle.pass_defs.proofs.Sites.{second_is_site}
use Rattle.pass_defs.proofs.passes.a_second_site_sees_the_first.Goals as goal

pub returns-clause-site : goal.returns-clause-site
returns-clause-site c = second_is_site
