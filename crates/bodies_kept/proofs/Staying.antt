-- A program that stays twice stays.
use Rattle.std.proofs.Common.{◌≡◌, ℕ, Bool, true, false, List, Option, Some, None, refl, sym, ap, ◌∙◌, subst, arith}
use Rattle.std.specs.Prelude.{max, slice_index_or}
use Rattle.program_model.specs.declared.body.Body.{Body}
use Rattle.program_model.specs.declared.program.Class.{Class}
use Rattle.program_model.specs.declared.program.Method.{Method}
use Rattle.program_model.specs.declared.program.Program.{Program}
use Rattle.bodies_kept.specs.Stays.{Stands, NoMoreRegisters, FewRegisters, MethodStaysBy, ClassStaysBy, StaysBy, MethodStays, ClassStays, Stays, StaysInlined}

-- ---- registers

pub no_more_same : (b : Option Body) → NoMoreRegisters b b
no_more_same None = tt
no_more_same (Some b) = (omega arith, refl)

no_more_on : (a b c : Option Body) → NoMoreRegisters a b → NoMoreRegisters b c → NoMoreRegisters a c
no_more_on None None None h k = tt
no_more_on (Some a) (Some b) (Some c) h k = (omega (arith, h.0, k.0), k.1 ∙ h.1)
no_more_on None (Some b) c h k = absurd h
no_more_on (Some a) None c h k = absurd h
no_more_on None None (Some c) h k = absurd k
no_more_on (Some a) (Some b) None h k = absurd k

pub few_same : (b : Option Body) → FewRegisters b b
few_same None = tt
few_same (Some b) = (omega arith, refl)

few_behind : (a b c : Option Body) → NoMoreRegisters a b → FewRegisters b c → FewRegisters a c
few_behind None None None h k = tt
few_behind (Some a) (Some b) (Some c) h k = (omega (arith, h.0, k.0), k.1 ∙ h.1)
few_behind None (Some b) c h k = absurd h
few_behind (Some a) None c h k = absurd h
few_behind None None (Some c) h k = absurd k
few_behind (Some a) (Some b) None h k = absurd k

few_before : (a b c : Option Body) → FewRegisters a b → NoMoreRegisters b c → FewRegisters a c
few_before None None None h k = tt
few_before (Some a) (Some b) (Some c) h k = (omega (arith, h.0, k.0), k.1 ∙ h.1)
few_before None (Some b) c h k = absurd h
few_before (Some a) None c h k = absurd h
few_before None None (Some c) h k = absurd k
few_before (Some a) (Some b) None h k = absurd k

-- ---- programs

module _ (admitted : List Bool) where
  -- where nothing is done
  module _ (R : Option Body → Option Body → Type 0) (same : (b : Option Body) → R b b) where
    pub method_same_by : (m : Method) → MethodStaysBy R admitted m m
    method_same_by m = record { rest = refl; refused = λ e. refl; registers = same m.body }

    class_same_by : (c : Class) → ClassStaysBy R admitted c c
    class_same_by c = record { rest = refl; fields = λ f s. s; methods = λ n s. (n, (s, method_same_by n)) }

    pub stays_same_by : (p : Program) → StaysBy R admitted p p
    stays_same_by p = record { rest = refl; classes = λ d s. (d, (s, class_same_by d)) }

  pub method_same : (m : Method) → MethodStays admitted m m
  method_same = method_same_by NoMoreRegisters no_more_same

  pub class_same : (c : Class) → ClassStays admitted c c
  class_same = class_same_by NoMoreRegisters no_more_same

  pub stays_same : (p : Program) → Stays admitted p p
  stays_same = stays_same_by NoMoreRegisters no_more_same

  -- one behind the other
  module _ (R S T : Option Body → Option Body → Type 0) (on : (a b c : Option Body) → R a b → S b c → T a c) where
    method_on : (l m n : Method) → MethodStaysBy R admitted l m → MethodStaysBy S admitted m n → MethodStaysBy T admitted l n
    method_on l m n h k = record {
      rest = k.rest ∙ ap (λ (x : Method). record x { body = n.body; lines = n.lines }) h.rest;
      refused = λ e. k.refused (ap (λ (x : Method). slice_index_or admitted x.name false) h.rest ∙ e) ∙ h.refused e;
      registers = on l.body m.body n.body h.registers k.registers;
    }

    class_on : (b c d : Class) → ClassStaysBy R admitted b c → ClassStaysBy S admitted c d → ClassStaysBy T admitted b d
    class_on b c d h k = record {
      rest = k.rest ∙ ap (λ (x : Class). record x { fields = d.fields; methods = d.methods }) h.rest;
      fields = λ f s. h.fields f (k.fields f s);
      methods = λ n s. let y = k.methods n s in let x = h.methods y.0 y.1.0 in (x.0, (x.1.0, method_on x.0 y.0 n x.1.1 y.1.1));
    }

    stays_by_on : (p q r : Program) → StaysBy R admitted p q → StaysBy S admitted q r → StaysBy T admitted p r
    stays_by_on p q r h k = record {
      rest = k.rest ∙ ap (λ (x : Program). record x { classes = r.classes }) h.rest;
      classes = λ d s. let y = k.classes d s in let x = h.classes y.0 y.1.0 in (x.0, (x.1.0, class_on x.0 y.0 d x.1.1 y.1.1));
    }

  pub stays_on : (p q r : Program) → Stays admitted p q → Stays admitted q r → Stays admitted p r
  stays_on = stays_by_on NoMoreRegisters NoMoreRegisters NoMoreRegisters no_more_on

  pub stays_behind : (p q r : Program) → Stays admitted p q → StaysInlined admitted q r → StaysInlined admitted p r
  stays_behind = stays_by_on NoMoreRegisters FewRegisters FewRegisters few_behind

  pub stays_before : (p q r : Program) → StaysInlined admitted p q → Stays admitted q r → StaysInlined admitted p r
  stays_before = stays_by_on FewRegisters NoMoreRegisters FewRegisters few_before
