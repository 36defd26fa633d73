use Rattle.std.proofs.Common.{◌≡◌, ◌∙◌, true, false, refl, sym, subst, true≢false}
use Rattle.std.specs.Prelude.{Contains, not, Bool}
use Rattle.program_model.specs.MemberRules.{is_direct}
use Rattle.call_graph.specs.Least.{InheritedBy}
use Rattle.call_graph.specs.Objects.{open_facts}
use Rattle.call_graph.proofs.Reaching.{adds_list}
use Rattle.call_graph.proofs.objects.add_inherited.Goals as goal

not_so : (b : Bool) → not b ≡ true → b ≡ false
not_so true h = absurd (true≢false (sym h))
not_so false h = refl

pub returns-in_ok-add_open-clause-only : goal.returns-in_ok-add_open-clause-only
returns-in_ok-add_open-clause-only c = λ is named.
    adds_list (InheritedBy c.args.at.now.program.now c.args.shut.now c.args.class c.args.above c.args.method.now) c.args.out.now.items (open_facts c.args.at.now.program.now c.args.shut.now c.inherited.result) c.add_open.new.out.items c.in_ok-add_open.ensures (λ y i. record {
      name = named.name;
      is_name = named.is;
      virtual = not_so (is_direct c.args.at.now.program.now c.args.method.now) (sym (c.is_virtual.ensures c.args.at.now.program.now is.of) ∙ c.if-is_virtual.true);
      is = subst (λ f. Contains (open_facts c.args.at.now.program.now c.args.shut.now f) y) (c.inherited.ensures is named.name.name named.name.proto (c.key_of_method-key.ensures.is c.args.at.now.program.now named.name named.is)) i;
    })
