-- What a head says of the bytes that it was read from.
use Rattle.std.specs.Prelude.{ℕ, ◌≡◌, List, take, slice_index, Some, None, Result, Ok, Err}
use Rattle.mr_base.specs.declared.head.Head.{Head}
use Rattle.mr_base.specs.declared.head_error.HeadError.{HeadError}
use Rattle.mr_base.specs.Heads.{head_length, two_at, four_at, cause_of}

-- The head is that with which the bytes begin, and its fields are what stands there.
pub record IsHeadOf (head : Head) (bs : List ℕ) : Type 0 where
  pub bytes : head.bytes ≡ take (head_length bs) bs
  pub total : head.length ≡ two_at bs 2
  pub ttl : head.ttl ≡ slice_index bs 8
  pub src : head.src.0 ≡ four_at bs 12
  pub dst : head.dst.0 ≡ four_at bs 16

-- The answer is the accepted head with which the bytes begin, or the first cause why there is none.
abbrev pub IsReadingOf : Result Head HeadError → List ℕ → Type 0
IsReadingOf (Ok head) bs = (cause_of bs ≡ None) × IsHeadOf head bs
IsReadingOf (Err cause) bs = cause_of bs ≡ Some cause
