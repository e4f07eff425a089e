-- Formulas of bounded metric temporal logic over sampled signals, and how far they look. Assumes nothing.
use Rattle.std.specs.Prelude.{ℕ, ◌+◌, max}

-- next, yesterday, until and since have their low and high bound first, then what they are of
pub data Formula : Type 0 where
  truth : Formula
  level : ℕ → ℕ → Formula  -- channel, level
  neg : Formula → Formula
  either both : Formula → Formula → Formula
  next yesterday : ℕ → ℕ → Formula → Formula
  until since : ℕ → ℕ → Formula → Formula → Formula

-- how far ahead of a position its value looks, in ticks
abbrev pub wait : Formula → ℕ
wait truth = 0
wait (level ch lv) = 0
wait (neg A) = wait A
wait (either A B) = max (wait A) (wait B)
wait (both A B) = max (wait A) (wait B)
wait (next lo hi A) = hi + wait A
wait (yesterday lo hi A) = wait A
wait (until lo hi A B) = hi + max (wait A) (wait B)
wait (since lo hi A B) = max (wait A) (wait B)

-- how far back of it
abbrev pub reach : Formula → ℕ
reach truth = 0
reach (level ch lv) = 0
reach (neg A) = reach A
reach (either A B) = max (reach A) (reach B)
reach (both A B) = max (reach A) (reach B)
reach (next lo hi A) = reach A
reach (yesterday lo hi A) = hi + reach A
reach (until lo hi A B) = max (reach A) (reach B)
reach (since lo hi A B) = hi + max (reach A) (reach B)

-- both together
abbrev pub span : Formula → ℕ
span A = wait A + reach A
