-- What a static, direct or super call finds.
use Rattle.std.proofs.Common.{◌≡◌, ℕ, true, List, Option, Some, None, refl, sym, ap, ◌∙◌, subst}
use Rattle.insn_set.specs.declared.ops.InvokeKind.{InvokeKind}
use Rattle.insn_set.specs.declared.ops.InvokeKind.TheVariants as call
use Rattle.program_model.specs.declared.program.Method.{Method}
use Rattle.program_model.specs.declared.program.MethodAt.{MethodAt}
use Rattle.program_model.specs.declared.program.Program.{Program}
use Rattle.program_model.specs.Lookups.{method_at}
use Rattle.program_model.specs.ProgramRules.{is_well_formed}
use Rattle.class_defs.specs.Finding.{Search, Nothing, Clash, Finds, search_of, finds_static}
use Rattle.domains.specs.Values.{Parts, any_value}
use Rattle.dom_frame.specs.Registers.{Registers}
use Rattle.call_targets.specs.declared.bound.Target.{Target}
use Rattle.call_targets.specs.declared.bound.Target.TheVariants as target
use Rattle.call_targets.specs.Bound.{BindsTo, target_of, target_found}
use Rattle.closed_facts.specs.Tables.{IsBelow, result_at}
use Rattle.closed_facts.specs.Found.{finds_bound}
use Rattle.facts_check.specs.declared.known.Known.{Known}
use Rattle.facts_check.specs.Placed.{IsCalled, IsBoundCall, IsBoundResult}

searched : (o : Option MethodAt) → target_of o ≡ target_found (search_of o)
searched None = refl
searched (Some at) = refl

-- the target of a call is what it finds by its name
pub bound_is : (p : Program) (class method : ℕ) (kind : InvokeKind) (t : Target) → is_well_formed p ≡ true → BindsTo p class kind method t → t ≡ target_found (finds_bound p class method kind)
bound_is p class method call.Static t w h = h ∙ searched (finds_static p method)
bound_is p class method call.Direct t w h = h ∙ searched (finds_static p method)
bound_is p class method call.Super t w h = h w
bound_is p class method call.Virtual t w h = h
bound_is p class method call.Interface t w h = h

one_found : (s : Search) (at other : MethodAt) → target.One at ≡ target_found s → s ≡ Finds other → other ≡ at
one_found Nothing at other e f = absurd (cc)
one_found Clash at other e f = absurd (cc)
one_found (Finds a) at other e f = cc

none_found : (s : Search) (at : MethodAt) → target.Nothing ≡ target_found s → s ≡ Finds at → ⊥
none_found Nothing at e f = cc
none_found Clash at e f = cc
none_found (Finds a) at e f = cc

clash_found : (s : Search) (at : MethodAt) → target.Clash ≡ target_found s → s ≡ Finds at → ⊥
clash_found Nothing at e f = cc
clash_found Clash at e f = cc
clash_found (Finds a) at e f = cc

clash_unfound : (s : Search) → target.Clash ≡ target_found s → s ≡ Nothing → ⊥
clash_unfound Nothing e f = cc
clash_unfound Clash e f = cc
clash_unfound (Finds a) e f = cc

one_unfound : (s : Search) (at : MethodAt) → target.One at ≡ target_found s → s ≡ Nothing → ⊥
one_unfound Nothing at e f = cc
one_unfound Clash at e f = cc
one_unfound (Finds a) at e f = cc

same_found : (m n : Method) → Some m ≡ Some n → m ≡ n
same_found m n e = cc

-- what a method gives that was found, where this value is its result
pub found_gives : (k : Known) (at : MethodAt) (m : Method) (v : Parts) → method_at k.program.now at ≡ Some m → v ≡ result_at k.facts.now m.name → (n : Method) → method_at k.program.now at ≡ Some n → IsBelow (result_at k.facts.now n.name) v
found_gives k at m v e i n f =
    let s : m ≡ n = same_found m n (sym e ∙ f) in
    subst (λ (w : Parts). IsBelow (result_at k.facts.now n.name) w) (sym (i ∙ ap (λ (m : Method). result_at k.facts.now m.name) s)) (λ d h. h)

-- where there is none
pub none_gives : (k : Known) (at : MethodAt) (v : Parts) → method_at k.program.now at ≡ None → (n : Method) → method_at k.program.now at ≡ Some n → IsBelow (result_at k.facts.now n.name) v
none_gives k at v e n f = absurd (let h : None ≡ Some n = sym e ∙ f in cc)

module _ (k : Known) (class method : ℕ) (kind : InvokeKind) where
  abbrev Bound : Target → Type 0
  Bound t = t ≡ target_found (finds_bound k.program.now class method kind)

  same_method : (at other : MethodAt) (m n : Method) → other ≡ at → method_at k.program.now at ≡ Some m → method_at k.program.now other ≡ Some n → m ≡ n
  same_method at other m n e f g = let h : Some m ≡ Some n = sym f ∙ ap (method_at k.program.now) (sym e) ∙ g in cc

  -- ---- what is passed

  pub one_called : (at : MethodAt) (m : Method) (args : List ℕ) (x : Registers) → Bound (target.One at) → method_at k.program.now at ≡ Some m → IsCalled k m args x → IsBoundCall k class method kind args x
  one_called at m args x b f h = record { calls = λ other n e g. subst (λ n. IsCalled k n args x) (same_method at other m n (one_found (finds_bound k.program.now class method kind) at other b e) f g) h }

  pub missing_called : (at : MethodAt) (args : List ℕ) (x : Registers) → Bound (target.One at) → method_at k.program.now at ≡ None → IsBoundCall k class method kind args x
  missing_called at args x b f = record { calls = λ other n e g. absurd (let s : other ≡ at = one_found (finds_bound k.program.now class method kind) at other b e in let h : None ≡ Some n = sym f ∙ ap (method_at k.program.now) (sym s) ∙ g in cc) }

  pub nothing_called : (args : List ℕ) (x : Registers) → Bound target.Nothing → IsBoundCall k class method kind args x
  nothing_called args x b = record { calls = λ other n e g. absurd (none_found (finds_bound k.program.now class method kind) other b e) }

  pub clash_called : (args : List ℕ) (x : Registers) → Bound target.Clash → IsBoundCall k class method kind args x
  clash_called args x b = record { calls = λ other n e g. absurd (clash_found (finds_bound k.program.now class method kind) other b e) }

  -- ---- what is given

  -- what it finds gives no more than this
  pub one_gives : (at : MethodAt) (v : Parts) → Bound (target.One at) → ((m : Method) → method_at k.program.now at ≡ Some m → IsBelow (result_at k.facts.now m.name) v) → IsBoundResult k class method kind v
  one_gives at v b h = record {
    given = λ other n e g. h n (ap (method_at k.program.now) (sym (one_found (finds_bound k.program.now class method kind) at other b e)) ∙ g);
    unfound = λ e. absurd (one_unfound (finds_bound k.program.now class method kind) at b e);
  }

  pub any_given : (v : Parts) → ((x : Parts) → IsBelow x v) → IsBoundResult k class method kind v
  any_given v h = record { given = λ other n e g. h (result_at k.facts.now n.name); unfound = λ e. h any_value }

  pub clash_given : (v : Parts) → Bound target.Clash → IsBoundResult k class method kind v
  clash_given v b = record {
    given = λ other n e g. absurd (clash_found (finds_bound k.program.now class method kind) other b e);
    unfound = λ e. absurd (clash_unfound (finds_bound k.program.now class method kind) b e);
  }
