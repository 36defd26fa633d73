-- The call in the second caller is a site, judged by the program in which the first one's is inlined.
use Rattle.std.proofs.Common.{◌≡◌, zero, suc, true≢false, [], ◌∷◌, Some, refl, subst, arith}
use Rattle.std.specs.Prelude.{Contains, length, codes}
use Rattle.program_model.specs.declared.program.Program.{Program}
use Rattle.dalvik_defs.specs.Names.{void}
use Rattle.dalvik_defs.specs.Naming.{named, body_of}
use Rattle.dalvik_defs.specs.Examples.{a_type, to_int, keeps_m, class, method}
use Rattle.dalvik_defs.specs.declared.program.NamedBody.{NamedBody}
use Rattle.dalvik_defs.specs.declared.program.NamedMethod.{NamedMethod}
use Rattle.dalvik_defs.specs.declared.program.NamedClass.{NamedClass}
use Rattle.pass_defs.specs.Kinds.{Kind, Undefined, Word}
use Rattle.pass_defs.specs.Registers.{Kinds}
use Rattle.pass_defs.specs.Typed.{Table, IsTyping, IsTyped}
use Rattle.pass_defs.specs.Site.{IsSite}
use Rattle.pass_defs.specs.Examples.{kinds, adds_two}
use Rattle.pass_defs.specs.PassExamples.{both_call_q, gives_q, caller_n, n_of, q_key, sizes_of}
use Rattle.pass_defs.specs.SiteExamples.{by_number, gives_by_number, inlined_by_number, adds_by_number, m_inlined, both_inlined}
use Rattle.pass_defs.proofs.Spins.{some_one}

alone_in : {A : Type 0} (x y : A) → Contains (x ∷ []) y → x ≡ y
alone_in x y (zero, low, e) = e
alone_in x y (suc k, low, e) = let f : ⊥ = omega (arith, low) in absurd f

-- ---- what is inlined is typed

abbrev base : Program
base = by_number gives_by_number gives_by_number

abbrev inlined_body : NamedBody
inlined_body = body_of base inlined_by_number

abbrev added_body : NamedBody
added_body = body_of base adds_by_number

abbrev the_class : NamedClass
the_class = class a_type 1 [] [] (method (codes "m") to_int 9 (Some inlined_body) ∷ method (codes "n") to_int 9 (Some inlined_body) ∷ adds_two ∷ [])

abbrev three : Kind → Kind → Kind → Kinds
three x y z = kinds (x ∷ y ∷ z ∷ [])

abbrev inlined_table : Table
inlined_table =
    Some (three Undefined Undefined Undefined)
    ∷ Some (three Undefined Undefined Word)
    ∷ Some (three Undefined Word Word)
    ∷ Some (three Word Word Word)
    ∷ Some (three Word Word Word)
    ∷ Some (three Word Word Word)
    ∷ []

abbrev added_table : Table
added_table = Some (kinds (Undefined ∷ Word ∷ [])) ∷ Some (kinds (Word ∷ Word ∷ [])) ∷ []

abbrev HasTyping : NamedMethod → NamedBody → Type 0
HasTyping m b = (t : Table) × IsTyping both_inlined the_class m b t

of_inlined : (m : NamedMethod) (b : NamedBody) → IsTyping both_inlined the_class m inlined_body inlined_table → Some inlined_body ≡ Some b → HasTyping m b
of_inlined m b t e = subst (λ b. HasTyping m b) (some_one inlined_body b e) (inlined_table, t)

of_added : (b : NamedBody) → Some added_body ≡ Some b → HasTyping adds_two b
of_added b e = subst (λ b. HasTyping adds_two b) (some_one added_body b e) (added_table, record { long = refl; entry = refl; reads = refl; right = refl; edges = refl })

in_class : (m : NamedMethod) (b : NamedBody) → Contains the_class.methods m → m.body ≡ Some b → HasTyping m b
in_class m b (zero, low, e) h = subst (λ m. m.body ≡ Some b → HasTyping m b) e (of_inlined _ b (record { long = refl; entry = refl; reads = refl; right = refl; edges = refl })) h
in_class m b (suc zero, low, e) h = subst (λ m. m.body ≡ Some b → HasTyping m b) e (of_inlined _ b (record { long = refl; entry = refl; reads = refl; right = refl; edges = refl })) h
in_class m b (suc (suc zero), low, e) h = subst (λ m. m.body ≡ Some b → HasTyping m b) e (of_added b) h
in_class m b (suc (suc (suc k)), low, e) h = let f : ⊥ = omega (arith, low) in absurd f

typed : IsTyped both_inlined
typed = record {
  bodies = λ c m b i j h. subst (λ c. Contains c.methods m → (t : Table) × IsTyping both_inlined c m b t) (alone_in the_class c i) (λ j. in_class m b j h) j;
}

-- ---- the site

pub second_is_site : IsSite base both_call_q m_inlined (keeps_m void) (λ b. length b.insns) (λ x. sizes_of (named x) ≡ (6 ∷ 6 ∷ 2 ∷ []) ∷ []) (λ k n r. ⊥) caller_n.key n_of gives_q [] 1
second_is_site = record {
  callee = record { key = q_key; method = adds_two; body = added_body; args = 0 ∷ [] };
  finds = refl;
  loud = refl;
  same_class = refl;
  other = refl;
  plain = refl;
  short = omega arith;
  unguarded = refl;
  initialised = λ e. refl;
  receiver = λ e. absurd (true≢false e);
  registers = omega arith;
  room = record {
    program = by_number inlined_by_number inlined_by_number;
    numbered = record { tables = refl; names = refl };
    body = inlined_by_number;
    has_body = refl;
    units = omega arith;
    typed = typed;
    fitting = refl;
  };
  result = refl;
}
