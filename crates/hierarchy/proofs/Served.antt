-- The tables that say which classes are initialised trivially are those of the program.
use Rattle.std.proofs.Common.{◌≡◌, ℕ, List, map, length, Some, sym, ap, subst, ◌∙◌, arith}
use Rattle.program_model.specs.declared.program.Program.{Program}
use Rattle.program_model.specs.ProgramRules.{is_well_formed}
use Rattle.std.proofs.Common.{true}
use Rattle.class_defs.proofs.WellFormed.{few_classes}
use Rattle.class_defs.specs.Starts.{initialiser_of}
use Rattle.hierarchy.specs.declared.build.Shape.{Shape}
use Rattle.hierarchy.specs.Quieting.{Serves}
use Rattle.hierarchy.specs.Shapes.{IsMade}
use Rattle.hierarchy.specs.Starting.{HasStarts, place_or_none}
use Rattle.hierarchy.proofs.Placed.{made_fits, mapped_length}

pub serves : (p : Program) (s : Shape) (starts supers order : List ℕ) → is_well_formed p ≡ true → IsMade p s → HasStarts p starts → starts ≡ map (λ c. place_or_none (initialiser_of p (Some c))) p.classes → supers ≡ s.supers.items → order ≡ s.order.items → Serves p starts supers s.lists.rows order
serves p s starts supers order wf m h is up ord =
    let f = made_fits p s wf m in
    subst (λ l. Serves p starts l s.lists.rows order) (sym up) (subst (λ l. Serves p starts s.supers.items s.lists.rows l) (sym ord) (record {
      starts_are = h;
      supers_are = f.supers;
      lists_are = f.lists;
      long = f.count;
      starts_long = ap length is ∙ mapped_length (λ c. place_or_none (initialiser_of p (Some c))) p.classes;
      ordered = m.order (let few = few_classes p wf in let l = f.count in omega (arith, few, l));
      ranked = f.ranked;
    }))
