use Rattle.std.specs.Prelude.{ℕ, ◌+◌, ◌-◌, ◌*◌, min, Bool, cond, not, ◌&&◌, ◌||◌, List, [], ◌∷◌, length, drop, ℤ, pos, neg_ℤ, Some, None, Option, ◌==◌, nat_lt, slice_index}
use Rattle.std.specs.Char.{is_ascii_digit}

-- the digits that a text begins with
abbrev pub front : List ℕ → List ℕ
front [] = []
front (c ∷ cs) = cond (is_ascii_digit c) (c ∷ front cs) []

-- the number that digits write after n, and at most 10000000000, which no range reaches
abbrev pub worth : ℕ → List ℕ → ℕ
worth n [] = n
worth n (c ∷ cs) = worth (min (n * 10 + (c - 48)) 10000000000) cs

-- digits with no leading zero
abbrev pub plain : List ℕ → Bool
plain ds = nat_lt 0 (length ds) && (not (slice_index ds 0 == 48) || length ds == 1)

-- the number that a text begins with, and how many bytes it takes
abbrev pub read_plain : List ℕ → Option (ℤ × ℕ)
read_plain ds = cond (plain ds) (Some (pos (worth 0 ds), length ds)) None

abbrev pub read_minus : List ℕ → Option (ℤ × ℕ)
read_minus ds = cond (plain ds && not (worth 0 ds == 0)) (Some (neg_ℤ (pos (worth 0 ds)), length ds + 1)) None

abbrev pub read_number : List ℕ → Option (ℤ × ℕ)
read_number s = cond (slice_index s 0 == 45) (read_minus (front (drop 1 s))) (read_plain (front s))

-- a line, without its end, that is a number and nothing else
abbrev pub read_whole : List ℕ → Option ℤ
read_whole l = elim (read_number l) [ None ↦ None | Some r ↦ cond (r.1 == length l) (Some r.0) None ]

-- a line, without its end, that is a number with no minus and nothing else
abbrev pub read_unsigned : List ℕ → Option ℕ
read_unsigned l = cond (plain (front l) && length (front l) == length l) (Some (worth 0 (front l))) None
