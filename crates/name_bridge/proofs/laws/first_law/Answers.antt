use Rattle.std.proofs.Common.{true}
use Rattle.dalvik_defs.specs.Find.{is_virtual_method}
use Rattle.dalvik_defs.specs.Naming.{text_at, signature_at}
use Rattle.class_defs.specs.Members.{own_method, own_virtual}
use Rattle.name_bridge.proofs.Tables.{sound}
use Rattle.name_bridge.proofs.Found.{first_by_number, own_answers, virtual_answers}
use Rattle.name_bridge.proofs.laws.first_law.Goals as goal

pub returns : goal.returns
returns c = record {
  methods = λ p n q cs h hn hq. first_by_number p (λ m. true) (text_at p n) (signature_at p q) (own_method p n q) (own_answers p (sound p h) n q hn hq) cs;
  virtuals = λ p n q cs h hn hq. first_by_number p is_virtual_method (text_at p n) (signature_at p q) (own_virtual p n q) (virtual_answers p (sound p h) n q hn hq) cs;
}
