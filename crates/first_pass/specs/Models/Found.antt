-- What the first pass says of a whole archive.
use Rattle.std.specs.Prelude.{ℕ, ◌≡◌, List, ltb, Option, Some, None, Result, Ok, Err}
use Rattle.std.proofs.Math.Option.{none, some}
use Rattle.records.specs.Models.Fixed.{fixed_words}
use Rattle.words.specs.Word.{pick}
use Rattle.registering.specs.Counting.{sum_by}
use Rattle.format.specs.declared.Format.{Format}
use Rattle.format.specs.declared.Refused.{Refused}
use Rattle.format.specs.Limits.{number_of}
use Rattle.rule.specs.Refusal.{run_of, refusal, refusal_of, items_of}
use Rattle.first_pass.specs.Models.Count.{Counted}

-- what was found so far: the lowest number and its first place
abbrev pub Finding : Type 0
Finding = Option Refused

-- of what was found and what is found at a place, what has the lower number; of equal ones the first
unfoldable pub lowest_of : Finding → Counted → ℕ → Finding
lowest_of found (Ok words) place = found
lowest_of None (Err reason) place = Some (record { number = number_of reason; place = place })
lowest_of (Some earlier) (Err reason) place =
    pick (ltb (number_of reason) earlier.number) (Some (record { number = number_of reason; place = place })) (Some earlier)

-- what was found in all, once no record stopped the pass
unfoldable pub concluded : Finding → ℕ → Result ℕ Refused
concluded None words = Ok words
concluded (Some refused) words = Err refused

-- the archive is refused by this number at this place; or it is not, and its items take so many words without texts and threads
abbrev pub CountIs : Format → List ℕ → Result ℕ Refused → Type 0
CountIs f archive (Err refused) = refusal_of f (run_of f archive) ≡ some (refusal refused.number refused.place)
CountIs f archive (Ok n) = (refusal_of f (run_of f archive) ≡ none) × (n ≡ sum_by fixed_words (items_of (run_of f archive)))
