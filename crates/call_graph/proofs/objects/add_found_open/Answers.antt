use Rattle.std.proofs.Common.{refl, subst}
use Rattle.std.specs.Prelude.{Contains}
use Rattle.std.proofs.lemmas.Result.{on_ok_weaker}
use Rattle.call_graph.specs.Least.{FoundCommon}
use Rattle.call_graph.specs.Objects.{open_facts}
use Rattle.call_graph.proofs.Reaching.{adds_list}
use Rattle.call_graph.proofs.objects.add_found_open.Goals as goal

pub returns-clause-only : goal.returns-clause-only
returns-clause-only c = λ is key. on_ok_weaker c.add_open.result (λ e.
    adds_list (FoundCommon c.args.at.now.program.now c.args.shut.now c.args.class) c.args.out.now.items (open_facts c.args.at.now.program.now c.args.shut.now c.find_virtual.result) c.add_open.new.out.items e (λ y i. record {
      number = key.number;
      name = key.name;
      is_name = key.is_name;
      common = key.common;
      is = subst (λ f. Contains (open_facts c.args.at.now.program.now c.args.shut.now f) y) (c.find_virtual.ensures key.name.name key.name.proto is.of (record { number = key.number; entry = key.name; is = key.is_name; name_is = refl; proto_is = refl; keyed = key.keyed })) i;
    })) c.add_open.ensures
