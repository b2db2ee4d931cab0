-- Numbers, texts and references as a line shows them, after "The listing program" of document 01. Each stands behind a space. A list of numbers
-- stands for bytes, here of ASCII: 32 is a space, 45 `-`, 48 `0`, 49 `1`, 58 `:`, 63 `?`.
use Rattle.std.specs.Prelude.{ℕ, zero, suc, ◌+◌, ◌/◌, ◌%◌, List, [], ◌∷◌, ◌++◌, Bool, true, false, Option, Some, None, ℤ, pos, negsuc, length, ltb}
use Rattle.words.specs.Stream.{part_of}
use Rattle.io.specs.Digits.{hex_digit_ascii, last_digits}
use Rattle.words.specs.Word.{pick}
use Rattle.arguments.specs.declared.Scalar.{Scalar}
use Rattle.arguments.specs.declared.Scalar.TheVariants.{Null, Signed32, Unsigned32, Signed64, Unsigned64, Double, Pointer, KernelObject, Boolean, Unknown}
use Rattle.arguments.specs.Argument.{scalar_type}
use Rattle.views.specs.declared.ShownText.{ShownText}
use Rattle.views.specs.declared.ShownText.TheVariants.{At, Unresolved}
use Rattle.views.specs.declared.ShownThread.{ShownThread}
use Rattle.views.specs.declared.ShownThread.TheVariants.{Words, Unresolved as ThreadUnresolved}
use Rattle.views.specs.declared.ShownReferent.{ShownReferent}
use Rattle.views.specs.declared.ShownReferent.TheVariants.{Text as TextReferent, Thread as ThreadReferent}
use Rattle.views.specs.declared.ShownValue.{ShownValue}
use Rattle.views.specs.declared.ShownValue.TheVariants.{Scalar as ScalarValue, Text as TextValue}

-- a number's decimal digits, the first of which is no 0 unless it is the only one; so many at most
unfoldable pub decimal_within : ℕ → ℕ → List ℕ
decimal_within zero n = []
decimal_within (suc k) n = pick (ltb n 10) [] (decimal_within k (n / 10)) ++ (hex_digit_ascii (n % 10) ∷ [])

-- "Numbers are decimal": numbers here have 64 bits, and those have 20 digits at most
unfoldable pub decimal : ℕ → List ℕ
decimal n = decimal_within 20 n

abbrev pub space : List ℕ
space = 32 ∷ []

unfoldable pub number_shown : ℕ → List ℕ
number_shown n = space ++ decimal n

-- a negative number is `-` and its magnitude
unfoldable pub signed_shown : ℤ → List ℕ
signed_shown (pos n) = number_shown n
signed_shown (negsuc n) = (32 ∷ 45 ∷ []) ++ decimal (n + 1)

-- "a boolean 0 or 1"
unfoldable pub boolean_shown : Bool → List ℕ
boolean_shown true = 32 ∷ 49 ∷ []
boolean_shown false = 32 ∷ 48 ∷ []

-- "doubles 16 lower-case hex digits"
unfoldable pub double_shown : ℕ → List ℕ
double_shown bits = space ++ last_digits 16 16 bits

-- "unresolved `?` and the index"
unfoldable pub unresolved_shown : ℕ → List ℕ
unresolved_shown index = (32 ∷ 63 ∷ []) ++ decimal index

-- "a string is its length, a colon, its bytes"
unfoldable pub bytes_shown : List ℕ → List ℕ
bytes_shown bytes = number_shown (length bytes) ++ (58 ∷ []) ++ bytes

unfoldable pub text_shown : List ℕ → ShownText → List ℕ
text_shown archive (At place long) = bytes_shown (part_of archive place long)
text_shown archive (Unresolved index) = unresolved_shown index

-- "unresolved `?` and the index (once, for a thread)"
unfoldable pub thread_shown : ShownThread → List ℕ
thread_shown (Words process thread) = number_shown process ++ number_shown thread
thread_shown (ThreadUnresolved index) = unresolved_shown index

-- what a record refers to: a text or a thread
unfoldable pub referent_shown : List ℕ → ShownReferent → List ℕ
referent_shown archive (TextReferent t) = text_shown archive t
referent_shown archive (ThreadReferent t) = thread_shown t

-- "no provider or a null value `-`"
unfoldable pub provider_shown : Option ℕ → List ℕ
provider_shown None = 32 ∷ 45 ∷ []
provider_shown (Some id) = number_shown id

-- "a null value `-`"; "an unknown argument's value `?`"
unfoldable pub scalar_shown : Scalar → List ℕ
scalar_shown Null = 32 ∷ 45 ∷ []
scalar_shown (Signed32 n) = signed_shown n
scalar_shown (Unsigned32 n) = number_shown n
scalar_shown (Signed64 n) = signed_shown n
scalar_shown (Unsigned64 n) = number_shown n
scalar_shown (Double bits) = double_shown bits
scalar_shown (Pointer word) = number_shown word
scalar_shown (KernelObject word) = number_shown word
scalar_shown (Boolean value) = boolean_shown value
scalar_shown (Unknown type) = 32 ∷ 63 ∷ []

unfoldable pub value_shown : List ℕ → ShownValue → List ℕ
value_shown archive (ScalarValue s) = scalar_shown s
value_shown archive (TextValue t) = text_shown archive t

-- the argument type of a value; "6 a string reference"
unfoldable pub value_type : ShownValue → ℕ
value_type (ScalarValue s) = scalar_type s
value_type (TextValue t) = 6

-- bytes by two lower-case hexadecimal digits each, with no space before them, as the programs that run test cases show them
unfoldable pub hex_shown : List ℕ → List ℕ
hex_shown [] = []
hex_shown (b ∷ bytes) = last_digits 16 2 b ++ hex_shown bytes
