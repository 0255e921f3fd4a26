mod Factors
