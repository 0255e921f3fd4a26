-- What private functions of a line's request answer: of a call with no argument, and of a call with one.
use Rattle.std.specs.Prelude.{ℕ, List, [], ◌∷◌, ℤ, Option, Some, None}
use Rattle.call_text.specs.Calls.{argument}
use Rattle.call_text.specs.declared.request.Request.{Request}

unfoldable pub alone : Request → List ℤ → Option Request
alone request [] = Some request
alone request (x ∷ xs) = None

unfoldable pub only : List ℤ → Option ℕ
only [] = None
only (x ∷ []) = Some (argument x)
only (x ∷ y ∷ xs) = None
