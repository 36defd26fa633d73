-- What staticise leaves of a program stays along, by its own laws.
use Rattle.std.proofs.Common.{◌≡◌, ℕ, zero, suc, ◌<◌, Bool, true, false, List, [], ◌∷◌, length, Option, Some, None, refl, sym, ap, ◌∙◌, subst, arith}
use Rattle.std.specs.Prelude.{is_some, slice_get, slice_index_or}
use Rattle.std.specs.Option.{option_map}
use Rattle.lemmas.proofs.Bools.{clash}
use Rattle.lemmas.proofs.Lists.{got_short}
use Rattle.lemmas.proofs.Options.{some_same}
use Rattle.program_model.specs.MemberRules.{is_static}
use Rattle.program_model.specs.ProgramRules.{is_well_formed}
use Rattle.program_model.specs.declared.body.Body.{Body}
use Rattle.program_model.specs.declared.pass.Outside.{Outside}
use Rattle.program_model.specs.declared.pools.MethodName.{MethodName}
use Rattle.program_model.specs.declared.pools.Proto.{Proto}
use Rattle.program_model.specs.declared.program.Class.{Class}
use Rattle.program_model.specs.declared.program.Method.{Method}
use Rattle.program_model.specs.declared.program.Program.{Program}
use Rattle.class_defs.specs.ClassGraph.{IsTwice}
use Rattle.class_defs.proofs.WellFormed.{Sound, sound}
use Rattle.name_bridge.proofs.Tables.{entry_at}
use Rattle.facts.specs.declared.facts.Facts.{Facts}
use Rattle.static_law.specs.Edited.{IsEdited, LetsClass, name_edited, target_of}
use Rattle.static_law.proofs.Classes.{contains_at}
use Rattle.bodies_kept.specs.Stays.{NoMoreRegisters, Stands}
use Rattle.staticise.specs.Called.{IsUntouched}
use Rattle.staticise.specs.Judging.{judged}
use Rattle.staticise.specs.Loosened.{IsLoosenedBy, flags_loosened, marks_loosened}
use Rattle.staticise.proofs.Called.{calls_known, untouched}
use Rattle.staticise.proofs.Fresh.{fresh}
use Rattle.staticise.proofs.Made.{all_made}
use Rattle.static_kept.specs.Choice.{IsPlan, given_by}
use Rattle.static_kept.specs.Stays.{ClassStaysBut, MethodStaysBut, SameFrame, StaysBut}
use Rattle.static_kept.proofs.Edited.{edited_by}
use Rattle.static_kept.proofs.MadeStatic.{AreChosen, IsChosen, chosen}
use Rattle.static_kept.proofs.Planned.{lets, may, picked}
use Rattle.static_kept.proofs.PlanStays.{stays_but}
use Rattle.static_kept.specs.Staying.{ClassStaysAlong, HadReceiver, MethodStaysAlong, NameMade, StaysAlong}

-- what staticise's laws say of its plan
pub plan_of : (p : Program) (facts : Facts) (o : Outside) (admitted : List Bool) → is_well_formed p ≡ true → IsPlan p facts o admitted
plan_of p facts o admitted w = record { made = all_made p facts o admitted; fresh = fresh p facts o admitted w; known = calls_known p facts o admitted }

frame_no_more : (a b : Option Body) → SameFrame a b → NoMoreRegisters a b
frame_no_more None None h = tt
frame_no_more None (Some d) h = absurd h
frame_no_more (Some b) None h = absurd h
frame_no_more (Some b) (Some d) h = let e = h.0 in (omega (arith, e), h.1)

module _ (given : ℕ → Option ℕ) (admitted : List Bool) where
  abbrev made : ℕ → Bool
  made n = is_some (given n)

  method_along : (m n : Method) → (made m.name ≡ true → is_static m.flags ≡ false) → MethodStaysBut given admitted m n → MethodStaysAlong made admitted m n
  method_along m n receiver x = record {
    rest = x.rest ∙ ap (λ l. record m { flags = n.flags; parameter_marks = n.parameter_marks; body = n.body; lines = l }) (sym lines);
    plain = λ e. (ap (λ (z : Method). z.flags) (x.plain e), ap (λ (z : Method). z.parameter_marks) (x.plain e));
    receiver = receiver;
    turned = x.turned;
    refused = λ e. (x.refused e, lines);
    registers = frame_no_more m.body n.body x.frame;
  }
    where
      lines : n.lines ≡ m.lines
      lines = ap (λ (z : Method). z.lines) x.rest

  class_along : (c d : Class) → LetsClass given c → ClassStaysBut given admitted c d → ClassStaysAlong made admitted c d
  class_along c d let_so x = record {
    rest = x.rest ∙ ap (λ fs. record c { fields = fs; methods = d.methods }) (sym fields);
    fields = λ f s. subst (λ fs. Stands fs f) fields s;
    methods = λ n s.
        let m = x.methods n s in
        (m.0, ((m.1.0.0, m.1.0.1), method_along m.0 n (let_so.receivers m.0 (contains_at c.methods m.1.0.0 m.0 m.1.0.1)) m.1.1));
  }
    where
      fields : d.fields ≡ c.fields
      fields = ap (λ (z : Class). z.fields) x.rest

module _ (p q : Program) (facts : Facts) (o : Outside) (admitted : List Bool) (w : is_well_formed p ≡ true) (twice : (class : ℕ) → IsTwice p class → ⊥) (x : IsLoosenedBy p (judged p facts o admitted) q) where
  s : Sound p
  s = sound p w

  plan : IsPlan p facts o admitted
  plan = plan_of p facts o admitted w

  picks : AreChosen p facts o admitted (judged p facts o admitted)
  picks = chosen p facts o admitted plan

  abbrev new_proto : ℕ → Option ℕ
  new_proto n = given_by p facts o admitted n

  edited : IsEdited new_proto (target_of p new_proto) p q
  edited = edited_by p facts o admitted s twice q picks x

  stays : StaysBut new_proto admitted p q
  stays = stays_but p q facts o admitted plan (untouched p facts o admitted) x

  names_made : (n : ℕ) (m : MethodName) → slice_get p.methods n ≡ Some m → (z : Option ℕ) → new_proto n ≡ z → is_some z ≡ true → (y : MethodName) × ((slice_get q.methods n ≡ Some y) × NameMade p q m y)
  names_made n m e None i f = clash false f refl
  names_made n m e (Some k) i f = (
    record m { proto = k },
    (
      edited.methods n ∙ (ap (option_map (name_edited new_proto (target_of p new_proto) n)) e ∙ ap (λ (z : Option ℕ). Some (elim z as (λ z. MethodName) [ Some j ↦ record m { proto = j } | None ↦ m ])) i),
      record { class = refl; name = refl; proto = λ old g. let v = edited.new n k m old i e g in (v.proto, (v.there, (v.result, v.parameters))) },
    ),
  )

  had_so : (n : ℕ) → is_some (new_proto n) ≡ true → HadReceiver p n
  had_so n e =
      let k = picked p facts o admitted s twice picks n e in
      let c : IsChosen p facts o admitted (judged p facts o admitted) n k.0 = k.1 in
      record {
        class = c.stands.class;
        method = c.stands.method;
        is_class = (c.stands.place, c.stands.is_class);
        is_method = (c.stands.at, c.stands.is_method);
        number = c.stands.number;
        receiver = (may p facts o admitted s twice picks n k.0 c).receiver;
      }

  -- the class that stands at a place stood there
  class_so : (d : Class) → Stands q.classes d → (c : Class) × (Stands p.classes c × ClassStaysAlong (λ n. is_some (new_proto n)) admitted c d)
  class_so d t =
      let short = got_short q.classes t.0 d t.1 in
      let as_many = stays.as_many in
      let c = entry_at p.classes t.0 (omega (arith, short, as_many)) in
      let y = stays.classes t.0 c.0 c.1 in
      (c.0, ((t.0, c.1), class_along new_proto admitted c.0 d (lets p facts o admitted s twice picks t.0 c.0 c.1) (subst (ClassStaysBut new_proto admitted c.0) (some_same y.0 d (sym y.1.0 ∙ t.1)) y.1.1)))

  pub along_loosened : StaysAlong admitted p q
  along_loosened = record {
    made = λ n. is_some (new_proto n);
    rest = stays.rest;
    strings = stays.strings;
    protos = stays.protos;
    long = stays.long;
    names = stays.names;
    named = λ n m e f. names_made n m e (new_proto n) refl f;
    had = had_so;
    classes = class_so;
  }
