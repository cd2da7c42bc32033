-- The band tables (docs/ORDER.md, RF-11 to RF-18), and neighbours of a list: the bands of a table, the envelopes of a list of borders.
use Rattle.std.specs.Prelude.{Bool, ◌&&◌, List, [], ◌∷◌, ℕ, zero, suc, ◌+◌, ◌-◌, leb, eqb, length, get_or, drop, nat_lt}
use Rattle.std.specs.List.{list_all, list_any, zip}

abbrev pub entry : List ℕ → ℕ → ℕ
entry xs i = get_or xs i 0

-- the last entry
abbrev pub last_entry : List ℕ → ℕ
last_entry xs = entry xs (length xs - 1)

-- each entry is above the one before it
abbrev pub climbs : List ℕ → Bool
climbs xs = list_all (λ p. nat_lt p.0 p.1) (zip xs (drop 1 xs))

-- b is one of the entries
unfoldable pub among : List ℕ → ℕ → Bool
among xs b = list_any (λ x. eqb x b) xs

-- the entries of low are entries of high
unfoldable pub drawn : List ℕ → List ℕ → Bool
drawn high low = list_all (among high) low

unfoldable pub high_fits : List ℕ → Bool
high_fits high = leb 2 (length high) && climbs high && leb (last_entry high) 64

-- low has an entry, and its ends are those of high
abbrev pub ends_alike : List ℕ → List ℕ → Bool
ends_alike high low = leb 1 (length low) && eqb (entry low 0) (entry high 0) && eqb (last_entry low) (last_entry high)

unfoldable pub low_fits : List ℕ → List ℕ → Bool
low_fits high low = ends_alike high low && climbs low && drawn high low

abbrev pub tables_fit : List ℕ → List ℕ → Bool
tables_fit high low = high_fits high && low_fits high low

-- from one entry to the next
pub record Span : Type 0 where
  pub from : ℕ
  pub to : ℕ

-- the k spans from entry i on
unfoldable pub spans_from : List ℕ → ℕ → ℕ → List Span
spans_from xs i zero = []
spans_from xs i (suc k) = record { from = entry xs i; to = entry xs (i + 1) } ∷ spans_from xs (suc i) k

abbrev pub spans : List ℕ → List Span
spans xs = spans_from xs 0 (length xs - 1)
