-- Tests of shut methods that say the same of virtual methods, along programs.
use Rattle.std.proofs.Common.{◌≡◌, Bool, true, refl, sym, ap, ◌∙◌, subst}
use Rattle.dalvik_defs.specs.Outer.{Outer}
use Rattle.dalvik_defs.specs.Shown.{SameShown}
use Rattle.dalvik_defs.specs.Silence.{key_in}
use Rattle.dalvik_defs.specs.declared.names.MethodKey.{MethodKey}
use Rattle.dalvik_defs.specs.declared.program.NamedProgram.{NamedProgram}
use Rattle.program_laws.specs.Shutting.{ShutsAlike, with_shut}
use Rattle.program_laws.proofs.Steps.{shown_alike}
use Rattle.program_laws.specs.Virtual.{HasVirtual, VirtualsStay}

pub virtuals_on : (p q r : NamedProgram) → VirtualsStay p q → VirtualsStay q r → VirtualsStay p r
virtuals_on p q r first second t c m e i v =
    let x : HasVirtual q (key_in c m) = second t c m e i v in
    subst (HasVirtual p) x.key (first x.type x.class x.method x.named x.is_in x.virtual)

-- of the virtual methods that are left two tests say the same, as they do of all that stood before
pub alike_left : (q r : NamedProgram) (a b : MethodKey → Bool) → VirtualsStay q r → ShutsAlike q a b → ShutsAlike r a b
alike_left q r a b stay alike t c m e i v =
    let x : HasVirtual q (key_in c m) = stay t c m e i v in
    subst (λ k. b k ≡ a k) x.key (alike x.type x.class x.method x.named x.is_in x.virtual)

pub alike_on : (q r : NamedProgram) (a b c : MethodKey → Bool) → VirtualsStay q r → ShutsAlike q a b → ShutsAlike r b c → ShutsAlike r a c
alike_on q r a b c stay first second t x m e i v = second t x m e i v ∙ alike_left q r a b stay first t x m e i v

pub shown_on : (q r : NamedProgram) (o : Outer) (silent shut : MethodKey → Bool) → VirtualsStay q r → ShutsAlike q o.shut shut → SameShown q r (with_shut o silent shut) → SameShown q r o
shown_on q r o silent shut stay alike shown = shown_alike q r o silent shut alike (alike_left q r o.shut shut stay alike) shown
