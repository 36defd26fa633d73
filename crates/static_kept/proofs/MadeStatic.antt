-- The methods that a plan makes static: each stands in the program, may be static, and its new name is free.
use Rattle.std.proofs.Common.{◌≡◌, ℕ, zero, suc, Bool, true, List, [], ◌∷◌, ◌++◌, Option, Some, None, refl, sym, ap, ◌∙◌, subst}
use Rattle.std.specs.Prelude.{◌&&◌, slice_get}
use Rattle.lemmas.proofs.Bools.{and_left}
use Rattle.lemmas.proofs.Options.{none_some}
use Rattle.dex_base.specs.declared.text.Text.{Text}
use Rattle.program_model.specs.declared.pass.Outside.{Outside}
use Rattle.program_model.specs.declared.pools.MethodName.{MethodName}
use Rattle.program_model.specs.declared.pools.Proto.{Proto}
use Rattle.program_model.specs.declared.program.Class.{Class}
use Rattle.program_model.specs.declared.program.Method.{Method}
use Rattle.program_model.specs.declared.program.Program.{Program}
use Rattle.facts.specs.declared.facts.Facts.{Facts}
use Rattle.loose_methods.specs.Candidates.{may_be_static}
use Rattle.static_protos.specs.Tables.{Tables, has_room, wanted}
use Rattle.staticise.specs.Judging.{judged}
use Rattle.staticise.specs.Made.{IsFresh, IsMade, WasLoose}
use Rattle.static_kept.specs.Choice.{IsPlan, given_by}

-- a number stands for a method of a class of the program, with its entry and its proto
pub record IsMethod (p : Program) (n : ℕ) : Type 0 where
  pub place : ℕ
  pub class : Class
  pub at : ℕ
  pub method : Method
  pub entry : MethodName
  pub old : Proto
  pub is_class : slice_get p.classes place ≡ Some class
  pub is_method : slice_get class.methods at ≡ Some method
  pub number : method.name ≡ n
  pub is_entry : slice_get p.methods n ≡ Some entry
  pub is_old : slice_get p.protos entry.proto ≡ Some old

-- a proto stands at a place
pub record HasProto (protos : List Proto) (answer : ℕ) (takes : List ℕ) (k : ℕ) : Type 0 where
  pub proto : Proto
  pub there : slice_get protos k ≡ Some proto
  pub result : proto.result ≡ answer
  pub parameters : proto.parameters ≡ takes

module _ (p : Program) (facts : Facts) (o : Outside) (admitted : List Bool) where
  -- a number that is given a proto
  pub record IsChosen (t : Tables) (n k : ℕ) : Type 0 where
    pub stands : IsMethod p n
    pub may : may_be_static p facts o admitted stands.place stands.class stands.entry stands.method ≡ true
    pub free : IsFresh p stands.entry stands.old stands.class
    pub proto : HasProto t.protos stands.old.result (stands.class.name ∷ stands.old.parameters) k

  -- tables that have what those of the program have, and new protos of chosen methods
  pub record AreChosen (t : Tables) : Type 0 where
    pub strings : (n : ℕ) (x : Text) → slice_get p.strings n ≡ Some x → slice_get t.strings n ≡ Some x
    pub protos : (n : ℕ) (x : Proto) → slice_get p.protos n ≡ Some x → slice_get t.protos n ≡ Some x
    pub given : (n k : ℕ) → given_by p facts o admitted n ≡ Some k → IsChosen t n k

get_front : {A : Type 0} (xs ys : List A) (n : ℕ) (x : A) → slice_get xs n ≡ Some x → slice_get (xs ++ ys) n ≡ Some x
get_front [] ys n x e = none_some x e
get_front (z ∷ xs) ys zero x e = e
get_front (z ∷ xs) ys (suc n) x e = get_front xs ys n x e

pub chosen : (p : Program) (facts : Facts) (o : Outside) (admitted : List Bool) → IsPlan p facts o admitted → AreChosen p facts o admitted (judged p facts o admitted)
chosen p facts o admitted plan = record {
  strings = λ n x e. ap (λ ts. slice_get ts n) plan.made.behind.strings ∙ get_front p.strings plan.made.behind.texts n x e;
  protos = λ n x e. ap (λ ts. slice_get ts n) plan.made.behind.protos ∙ get_front p.protos plan.made.behind.new n x e;
  given = λ n k e. one n k (plan.made.each n k e);
}
  where
    one : (n k : ℕ) → IsMade p facts o admitted (judged p facts o admitted) n k → IsChosen p facts o admitted (judged p facts o admitted) n k
    one n k m = record {
      stands = record {
        place = m.was.place;
        class = m.was.class;
        at = m.was.at;
        method = m.was.method;
        entry = m.was.name;
        old = m.was.proto;
        is_class = m.was.is_class;
        is_method = m.was.is_method;
        number = m.was.is_number;
        is_entry = m.was.is_name;
        is_old = m.was.is_proto;
      };
      may = and_left (may_be_static p facts o admitted m.was.place m.was.class m.was.name m.was.method) (has_room p m.was.tables (wanted p m.was.class m.was.method m.was.name m.was.proto)) m.was.holds;
      free = plan.fresh n m.was;
      proto = record { proto = m.new; there = m.there; result = m.result; parameters = m.parameters };
    }
