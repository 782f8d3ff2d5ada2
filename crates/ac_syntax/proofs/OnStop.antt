-- What a stop says, passed on.
use Rattle.std.proofs.Common.{◌≡◌, ℕ, sym, subst}
use Rattle.ac_syntax.specs.PartParsing.{OnSyntax, OnFault, faulted}
use Rattle.ac_syntax.specs.declared.fault.ParseFault.{ParseFault}
use Rattle.ac_syntax.specs.declared.stop.ParseError.{ParseError}
use Rattle.ac_syntax.specs.declared.stop.ParseError.TheVariants as stop

pub on_syntax_more : {P Q : Type 0} (e : ParseError) → (P → Q) → OnSyntax e P → OnSyntax e Q
on_syntax_more stop.Memory f p = tt
on_syntax_more (stop.Syntax left) f p = f p

pub refused : {Q : Type 0} (e : ParseError) (n : ℕ) → e ≡ stop.Syntax n → Q → OnSyntax e Q
refused {Q} e n is q = subst (λ (x : ParseError). OnSyntax x Q) (sym is) q

pub fault_of : (P : Type 0) (s : ParseError) (e : ParseFault) → faulted s e → OnSyntax s P → OnFault e P
fault_of P stop.Memory e is p = subst (λ (x : ParseFault). OnFault x P) (sym is) tt
fault_of P (stop.Syntax left) e f p = subst (λ (x : ParseFault). OnFault x P) (sym f.1) p
