pub mod Gauges
